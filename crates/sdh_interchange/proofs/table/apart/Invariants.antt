use Rattle.std.proofs.Common.{◌≡◌, ℕ, ◌+◌, ◌*◌, ◌/◌, ◌%◌, ◌<◌, [], length, slice_index_or}
use Rattle.sdh_interchange.specs.Tables.{cell}
use Rattle.sdh_interchange.proofs.Turning.{last}
use Rattle.sdh_interchange.proofs.table.apart.Given as goal

abbrev pub invariant-loop-i : goal.invariant-loop-i
invariant-loop-i l = record {
  last : l.last ≡ last;
  rows : length l.out ≡ 16;
  lanes : (k : ℕ) → k < 16 → length (slice_index_or l.out k []) ≡ 16;
  done : (k a : ℕ) → k < 2 * l.i → a < 8 → cell l.out k a ≡ cell l.v (k / 2) (8 * (k % 2) + a);
}
