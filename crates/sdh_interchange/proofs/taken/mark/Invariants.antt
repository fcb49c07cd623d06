use Rattle.std.proofs.Common.{◌≡◌, ℕ, ◌+◌, ◌<◌, ◌≤◌, ◌⊎◌, true, false, length, slice_index_or}
use Rattle.sdh_interchange.proofs.taken.mark.Given as goal

abbrev pub invariant-loop-a : goal.invariant-loop-a
invariant-loop-a l = record {
  many : length l.here ≡ length l.fn.here;
  inside : (a : ℕ) → a < l.a → slice_index_or l.here (l.from + a) false ≡ true;
  others : (a : ℕ) → (a < l.from) ⊎ (l.from + l.count ≤ a) → slice_index_or l.here a false ≡ slice_index_or l.fn.here a false;
}
