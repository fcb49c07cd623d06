use Rattle.std.proofs.Common.{◌≤◌, ◌+◌, All, length}
use Rattle.std.specs.Option.{option_map_or}
use Rattle.sdh_verdicts.specs.Failures.{IsFailureIn}
use Rattle.sdh_whatif_cli.proofs.Naming.{Together}
use Rattle.sdh_whatif_cli.proofs.own.together.Given as goal

abbrev pub invariant-loop-rest : goal.invariant-loop-rest
invariant-loop-rest l = record {
  named : Together (λ text. text.now) l.map l.fn.text l.list.items l.rest;
  short : length l.list.items ≤ 16;
  within : All (IsFailureIn (length l.map)) l.list.items;
}

abbrev pub decreases-loop-rest : goal.decreases-loop-rest
decreases-loop-rest l = option_map_or (λ text. length text.now + 1) l.rest 0
