use Rattle.std.proofs.Common.{◌≡◌, ◌++◌, take}
use Rattle.sdh_whatif_cli.specs.Cases.{of_severity}
use Rattle.sdh_whatif_cli.proofs.gathered.push_severe.Given as goal

abbrev pub invariant-loop-failure : goal.invariant-loop-failure
invariant-loop-failure l = record { failures : l.case ≡ l.initial.case ++ of_severity l.fn.grade (take l.failure-index l.fn.failures) }
