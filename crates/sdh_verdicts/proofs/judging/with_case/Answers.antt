use Rattle.std.proofs.Common.{◌∙◌, sym, ap, length, get_or}
use Rattle.sdh_ringmap.specs.declared.Side.TheVariants.{West}
use Rattle.sdh_verdicts.specs.Sides.{rests}
use Rattle.sdh_verdicts.specs.declared.failure.Failure.TheVariants.{Degraded}
use Rattle.sdh_verdicts.specs.Sides.{resting_of}
use Rattle.sdh_verdicts.specs.Failures.{steps_of}
use Rattle.sdh_verdicts.proofs.Rests.{case_next}
use Rattle.sdh_verdicts.proofs.judging.with_case.Goals as goal

pub loop-failure-preserved : goal.loop-failure-preserved
loop-failure-preserved c =
    let t = c.args.threshold in
    let n = length c.args.map.now in
    let p = c.args.place.at.0 in
    let d = c.args.place.side in
    let i = c.loop-failure.failure-index in
    let some = Degraded (record { 0 = 0 }) West in
    c.with_failure-rest.ensures ∙ ap (rests t n p d (steps_of n t (get_or c.args.case.now i some))) c.loop-failure.invariant
    ∙ sym (case_next t n p d c.args.case.now i some (resting_of c.args.from) c.loop-failure-test.true)
