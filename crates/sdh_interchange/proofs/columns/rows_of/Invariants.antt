use Rattle.std.proofs.Common.{◌≡◌, ℕ, ◌+◌, ◌<◌, [], length, slice_index_or}
use Rattle.sdh_interchange.specs.Tables.{cell}
use Rattle.sdh_interchange.proofs.columns.rows_of.Given as goal

abbrev pub invariant-loop-a : goal.invariant-loop-a
invariant-loop-a g l = record {
  rows : length l.rows ≡ g.row.A;
  lanes : (i : ℕ) → i < g.row.A → length (slice_index_or l.rows i []) ≡ 16;
  done : (a k : ℕ) → a < l.a → k < 16 → cell l.rows a k ≡ cell l.own a (l.from + k);
}
