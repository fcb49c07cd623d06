use Rattle.std.proofs.Common.{◌∙◌, ◌++◌, sym, ap, length, get_or, arith, append_assoc}
use Rattle.std.specs.List.{flat_map}
use Rattle.sdh_ringmap.specs.declared.Side.TheVariants.{West}
use Rattle.sdh_verdicts.specs.declared.failure.Failure.TheVariants.{Degraded}
use Rattle.sdh_verdicts.specs.Failures.{steps_of}
use Rattle.sdh_whatif_cli.specs.Lines.{step_part}
use Rattle.sdh_whatif_cli.proofs.Parts.{case_next}
use Rattle.sdh_whatif_cli.proofs.names.put_steps.Goals as goal

pub loop-failure-preserved : goal.loop-failure-preserved
loop-failure-preserved c =
    let nodes = c.args.map.now in
    let n = length nodes in
    let t = c.args.threshold in
    let case = c.args.case.now in
    let i = c.loop-failure.failure-index in
    let start = c.args.line.now in
    let part = step_part c.args.form nodes in
    let some = Degraded (record { 0 = 0 }) West in
    record {
      short = omega (arith, c.put_failure.ensures.short, c.loop-failure.invariant.short);
      text = c.put_failure.ensures.text
          ∙ ap (λ l. l ++ flat_map part (steps_of n t (get_or case i some))) c.loop-failure.invariant.text
          ∙ append_assoc start _ _
          ∙ ap (λ l. start ++ l) (sym (case_next part n t case i some c.loop-failure-test.true));
    }
