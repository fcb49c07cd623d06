use Rattle.std.proofs.Common.{sym, ap, ◌∙◌, length}
use Rattle.sdh_plan.specs.declared.step.Step.TheVariants.{Fibre}
use Rattle.sdh_ringmap.specs.declared.Side.TheVariants.{West}
use Rattle.sdh_ringmap.specs.declared.terms.Condition.TheVariants.{Clear}
use Rattle.sdh_verdicts.specs.Sides.{rest_after}
use Rattle.sdh_verdicts.specs.Sides.{resting_of}
use Rattle.sdh_verdicts.proofs.Rests.{rests_next}
use Rattle.sdh_verdicts.proofs.resting.rests.Goals as goal

pub loop-step-preserved : goal.loop-step-preserved
loop-step-preserved c =
    let n = length c.args.map.now in
    let i = c.loop-step.step-index in
    let steps = c.args.steps.now in
    let next =
    rests_next c.args.threshold n c.args.place.at.0 c.args.place.side steps i
    (Fibre (record { at = record { 0 = 0 }; side = West; condition = Clear })) (resting_of c.args.from) c.loop-step-test.true in
    c.rest_after-rest.ensures ∙ ap (rest_after c.args.threshold n c.args.place.at.0 c.args.place.side _) c.loop-step.invariant ∙ sym next
