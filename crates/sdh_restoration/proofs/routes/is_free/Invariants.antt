use Rattle.std.proofs.Common.{◌≡◌, ◌+◌, ◌-◌, length}
use Rattle.sdh_ringmap.specs.Arcs.{arc_between, is_among, none_of}
use Rattle.sdh_restoration.specs.Routes.{applied_at_place}
use Rattle.sdh_restoration.proofs.routes.is_free.Given as goal

abbrev pub invariant-loop-place : goal.invariant-loop-place
invariant-loop-place l =
    let p = applied_at_place (length l.map) (is_among l.applied) (arc_between (length l.map) l.ends.from.0 l.ends.to.0) in
    none_of p l.first l.count ≡ none_of p l.place (l.first + l.count - l.place)
