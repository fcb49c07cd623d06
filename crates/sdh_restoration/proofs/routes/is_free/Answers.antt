use Rattle.std.proofs.Common.{◌≡◌, ◌+◌, ◌-◌, ◌<◌, ℕ, Bool, length, arith, ap, sym, ◌∙◌}
use Rattle.sdh_ringmap.specs.Arcs.{arc_between, is_among, none_of}
use Rattle.sdh_restoration.specs.Routes.{applied_at_place}
use Rattle.sdh_restoration.proofs.Places.{none_of-next}
use Rattle.sdh_restoration.proofs.routes.is_free.Goals as goal

pub loop-place-preserved : goal.loop-place-preserved
loop-place-preserved c =
    let n = length c.args.map.now in
    let p : ℕ → Bool = applied_at_place n (is_among c.args.applied.now) (arc_between n c.args.ends.from.0 c.args.ends.to.0) in
    let i = c.loop-place.place in
    let left = c.args.first + c.args.count - i in
    let some : 0 < left = omega (arith, c.loop-place-test.true, c.min-place-end.ensures) in
    let next = none_of-next p i left some (sym c.is_applied_at.ensures ∙ c.if-is_applied_at.false) in
    let rest : left - 1 ≡ c.args.first + c.args.count - (i + 1) = omega arith in
    c.loop-place.invariant ∙ next ∙ ap (none_of p (i + 1)) rest
