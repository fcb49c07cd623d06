use Rattle.std.proofs.Common.{◌≡◌, ℕ, ◌+◌, ◌*◌, ◌<◌, [], length, slice_index, slice_index_or}
use Rattle.sdh_interchange.specs.Tables.{cell}
use Rattle.sdh_interchange.proofs.payloads.load.Given as goal

abbrev pub invariant-loop-k : goal.invariant-loop-k
invariant-loop-k g l = record {
  rows : length l.rows ≡ g.row.V;
  lanes : (i : ℕ) → i < g.row.V → length (slice_index_or l.rows i []) ≡ 16;
  done : (i j : ℕ) → i < l.k → j < 16 → cell l.rows i j ≡ slice_index l.bytes (l.at + (16 * i + j));
}
