use Rattle.std.proofs.Common.{ℕ, ◌<◌, ◌≤◌, get_or}
use Rattle.sdh_outage_cli.proofs.rooms.largest.Given as goal

abbrev pub invariant-loop-i : goal.invariant-loop-i
invariant-loop-i l = record {
  all : (j : ℕ) → j < l.i → get_or l.counts j 0 ≤ l.most;
  few : (most : ℕ) → ((j : ℕ) → get_or l.counts j 0 ≤ most) → l.most ≤ most;
}
