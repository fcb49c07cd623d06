use Rattle.std.proofs.Common.{◌≡◌, ◌+◌, ◌-◌, ◌*◌, ◌≤◌, ◌++◌, [], All, length, take, get_or}
use Rattle.sdh_verdicts.specs.Failures.{IsFailureIn}
use Rattle.sdh_whatif_cli.proofs.table.push_digit.Given as goal

abbrev pub invariant-loop-failure : goal.invariant-loop-failure
invariant-loop-failure l = record {
  failures : l.case ≡ l.initial.case ++ take l.failure-index (get_or l.fn.own (l.fn.digit - (10 * l.fn.nodes + 1)) []);
  short : length l.case ≤ length l.initial.case + l.failure-index;
  within : All (IsFailureIn l.fn.nodes) l.case;
}
