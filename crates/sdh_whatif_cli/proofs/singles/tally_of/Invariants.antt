use Rattle.std.proofs.Common.{◌≡◌, ◌≤◌}
use Rattle.sdh_whatif_cli.specs.Singles.{tally_of}
use Rattle.sdh_whatif_cli.proofs.singles.tally_of.Given as goal

abbrev pub invariant-loop-k : goal.invariant-loop-k
invariant-loop-k l = record {
  is : l.tally ≡ tally_of l.fn.plan l.fn.from l.k;
  cases : l.tally.cases ≤ l.k;
  losing : l.tally.losing ≤ l.k;
}
