use Rattle.std.proofs.Common.{◌≡◌, ℕ, ◌≤◌, get_or}
use Rattle.sdh_basics.specs.Cells.{cells}
use Rattle.sdh_outage_cli.specs.Rooms.{ports_at}
use Rattle.sdh_outage_cli.proofs.rooms.new_counts.Given as goal

abbrev pub invariant-loop-i : goal.invariant-loop-i
invariant-loop-i l = record {
  counts : l.counts.items ≡ cells (ports_at l.circuits.circuits) l.i;
  few : (j : ℕ) → get_or l.counts.items j 0 ≤ 256;
}
