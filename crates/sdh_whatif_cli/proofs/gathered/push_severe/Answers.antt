use Rattle.std.proofs.Common.{◌∙◌, List, length, get_or, take, sym, ap, arith, length-append, eq-eqb}
use Rattle.std.specs.Prelude.{◌==◌}
use Rattle.sdh_ringmap.specs.declared.Side.TheVariants.{West}
use Rattle.sdh_verdicts.specs.declared.failure.Failure.{Failure}
use Rattle.sdh_verdicts.specs.declared.failure.Failure.TheVariants.{Degraded}
use Rattle.sdh_whatif_cli.specs.Cases.{severity, of_severity}
use Rattle.sdh_whatif_cli.proofs.Severe.{room_left}
use Rattle.sdh_whatif_cli.proofs.gathered.push_severe.Goals as goal

pub push-requires : goal.push-requires
push-requires c =
    let some = Degraded (record { 0 = 0 }) West in
    let i = c.loop-failure.failure-index in
    let passes = eq-eqb (severity (get_or c.args.failures.now i some)) c.args.grade (sym c.severity.ensures ∙ c.if-severity-grade.true) in
    omega (
      arith,
      c.requires.room,
      ap (λ (l : List Failure). length l) c.loop-failure.invariant.failures,
      length-append c.args.case.now (of_severity c.args.grade (take i c.args.failures.now)),
      room_left (λ f. severity f == c.args.grade) c.args.failures.now i some c.loop-failure-test.true passes,
    )
