use Rattle.std.proofs.Common.{◌≡◌, ℕ, ◌+◌, ◌<◌, ◌≤◌, ◌⊎◌, [], length, slice_index_or}
use Rattle.sdh_interchange.proofs.taken.make_room.Given as goal

abbrev pub invariant-loop-a : goal.invariant-loop-a
invariant-loop-a l = record {
  many : length l.cells ≡ length l.fn.cells;
  inside : (a : ℕ) → a < l.a → length (slice_index_or l.cells (l.from + a) []) ≡ 2349;
  others : (a : ℕ) → (a < l.from) ⊎ (l.from + l.count ≤ a) → slice_index_or l.cells a [] ≡ slice_index_or l.fn.cells a [];
}
