use Rattle.std.proofs.Common.{◌∙◌, sym, ap, length}
use Rattle.sdh_plan.specs.declared.step.Step.TheVariants.{Settle}
use Rattle.sdh_verdicts.specs.Sides.{rest_after}
use Rattle.sdh_verdicts.specs.Sides.{resting_of}
use Rattle.sdh_verdicts.specs.Failures.{steps_of}
use Rattle.sdh_verdicts.proofs.Rests.{rests_some, rests_none}
use Rattle.sdh_verdicts.proofs.judging.with_failure.Goals.{in-Some, in_default}
use Rattle.sdh_verdicts.proofs.judging.with_failure.Goals as goal

pub loop-i-preserved : goal.loop-i-preserved
loop-i-preserved c =
    let t = c.args.threshold in
    let n = length c.args.map.now in
    let p = c.args.place.at.0 in
    let d = c.args.place.side in
    let steps = steps_of n t c.args.failure in
    let from = resting_of c.args.from in
    elim c.match-step_of.branch [
      | in-Some w ↦ ap (λ x. resting_of x) w.rest-is ∙ w.rest_after-rest.ensures ∙ ap (rest_after t n p d w.in-Some.step) c.loop-i.invariant
          ∙ sym (rests_some t n p d steps c.loop-i.i w.in-Some.step from (sym c.step_of.ensures ∙ w.in-Some.is))
      | in_default w ↦ ap (λ x. resting_of x) w.rest-is ∙ c.loop-i.invariant
          ∙ sym (rests_none t n p d steps c.loop-i.i Settle from (sym c.step_of.ensures ∙ w.in_default.is))
    ]
