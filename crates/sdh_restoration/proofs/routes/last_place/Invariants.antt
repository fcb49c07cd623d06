use Rattle.std.proofs.Common.{◌≡◌, length}
use Rattle.sdh_ringmap.specs.Arcs.{arc_between, is_among}
use Rattle.sdh_restoration.specs.Routes.{applied_at_place, last_place}
use Rattle.sdh_restoration.proofs.routes.last_place.Given as goal

-- none of the places from `place` on is applied
abbrev pub invariant-loop-place : goal.invariant-loop-place
invariant-loop-place l =
    let p = applied_at_place (length l.map) (is_among l.applied) (arc_between (length l.map) l.ends.from.0 l.ends.to.0) in
    last_place p l.spans ≡ last_place p l.place
