use Rattle.std.proofs.Common.{◌≡◌, ◌+◌, ◌-◌, length}
use Rattle.sdh_ringmap.specs.Arcs.{arc_between, is_among}
use Rattle.sdh_restoration.specs.Routes.{applied_at_place, places_before}
use Rattle.sdh_restoration.proofs.routes.first_place.Given as goal

abbrev pub invariant-loop-place : goal.invariant-loop-place
invariant-loop-place l =
    let p = applied_at_place (length l.map) (is_among l.applied) (arc_between (length l.map) l.ends.from.0 l.ends.to.0) in
    places_before p 0 l.spans ≡ l.place + places_before p l.place (l.spans - l.place)
