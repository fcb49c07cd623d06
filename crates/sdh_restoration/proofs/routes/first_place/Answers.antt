use Rattle.std.proofs.Common.{◌≡◌, ◌+◌, ◌-◌, ◌<◌, ℕ, Bool, length, arith, ap, sym, ◌∙◌}
use Rattle.sdh_ringmap.specs.Arcs.{arc_between, is_among}
use Rattle.sdh_restoration.specs.Routes.{applied_at_place, places_before}
use Rattle.sdh_restoration.proofs.Places.{places_before-next}
use Rattle.sdh_restoration.proofs.routes.first_place.Goals as goal

pub loop-place-preserved : goal.loop-place-preserved
loop-place-preserved c =
    let n = length c.args.map.now in
    let p : ℕ → Bool = applied_at_place n (is_among c.args.applied.now) (arc_between n c.args.ends.from.0 c.args.ends.to.0) in
    let i = c.loop-place.place in
    let left = c.distance-spans.result - i in
    let some : 0 < left = omega (arith, c.loop-place-test.true) in
    let next = places_before-next p i left some (sym c.is_applied_at.ensures ∙ c.if-is_applied_at.false) in
    let rest : left - 1 ≡ c.distance-spans.result - (i + 1) = omega arith in
    c.loop-place.invariant ∙ ap (λ m. i + m) (next ∙ ap (λ k. places_before p (i + 1) k + 1) rest) ∙ omega arith
