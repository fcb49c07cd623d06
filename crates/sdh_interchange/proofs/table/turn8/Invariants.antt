use Rattle.std.proofs.Common.{◌≡◌, ℕ, ◌+◌, ◌*◌, ◌/◌, ◌%◌, ◌<◌, [], length, slice_index_or}
use Rattle.sdh_interchange.specs.Tables.{cell}
use Rattle.sdh_interchange.proofs.table.turn8.Given as goal

abbrev pub invariant-loop-i : goal.invariant-loop-i
invariant-loop-i l = record {
  rows : length l.out ≡ 8;
  lanes : (k : ℕ) → k < 8 → length (slice_index_or l.out k []) ≡ 16;
  done : (k j : ℕ) → k < 2 * l.i → j < 16 → cell l.out k j ≡ cell l.fn.v (4 * (j % 2) + k / 2) (8 * (k % 2) + j / 2);
}
