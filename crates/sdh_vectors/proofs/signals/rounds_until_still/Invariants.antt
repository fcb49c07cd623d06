use Rattle.std.proofs.Common.{◌≡◌, ◌≤◌}
use Rattle.sdh_vectors.proofs.signals.rounds_until_still.Given as goal

abbrev pub invariant-loop-count : goal.invariant-loop-count
invariant-loop-count l = record {
  ids : l.ring.ring.ids ≡ l.fn.ring.ring.ids;
  ran : 1 ≤ l.ring.rounds;
}
