use Rattle.std.proofs.Common.{◌≡◌, ◌≤◌}
use Rattle.sdh_whatif_cli.specs.Singles.{own_tally}
use Rattle.sdh_whatif_cli.proofs.singles.own_tally.Given as goal

abbrev pub invariant-loop-k : goal.invariant-loop-k
invariant-loop-k l = record {
  is : l.tally ≡ own_tally l.scene.plan.now l.scene.own.now l.k;
  cases : l.tally.cases ≤ l.k;
  losing : l.tally.losing ≤ l.k;
}
