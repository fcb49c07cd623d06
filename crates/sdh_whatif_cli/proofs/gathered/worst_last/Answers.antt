use Rattle.std.proofs.Common.{◌++◌, [], List, length, ap, arith, length-append}
use Rattle.sdh_verdicts.specs.declared.failure.Failure.{Failure}
use Rattle.sdh_whatif_cli.specs.Cases.{of_severity}
use Rattle.sdh_whatif_cli.proofs.Severe.{all_counted}
use Rattle.sdh_whatif_cli.proofs.gathered.worst_last.Goals as goal

pub push_severe-requires : goal.push_severe-requires
push_severe-requires c = record {
  room = omega (arith, c.requires.few, ap (λ (l : List Failure). length l) c.new-case.ensures, all_counted c.args.failures.now);
}

pub push_severe-requires-2 : goal.push_severe-requires-2
push_severe-requires-2 c =
    let fs = c.args.failures.now in
    record {
      room = omega (
        arith,
        c.requires.few,
        ap (λ (l : List Failure). length l) c.new-case.ensures,
        ap (λ (l : List Failure). length l) c.push_severe.ensures,
        length-append c.new-case.result (of_severity 0 fs),
        all_counted fs,
      );
    }

pub push_severe-requires-3 : goal.push_severe-requires-3
push_severe-requires-3 c =
    let fs = c.args.failures.now in
    record {
      room = omega (
        arith,
        c.requires.few,
        ap (λ (l : List Failure). length l) c.new-case.ensures,
        ap (λ (l : List Failure). length l) c.push_severe.ensures,
        ap (λ (l : List Failure). length l) c.push_severe-2.ensures,
        length-append c.new-case.result (of_severity 0 fs),
        length-append c.push_severe.new.case (of_severity 1 fs),
        all_counted fs,
      );
    }
