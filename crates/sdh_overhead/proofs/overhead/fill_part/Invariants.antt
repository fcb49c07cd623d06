use Rattle.std.proofs.Common.{◌≡◌, ℕ, ◌<◌, ◌≤◌, slice_index}
use Rattle.sdh_overhead.proofs.overhead.fill_part.Given as goal

abbrev pub invariant-loop-i : goal.invariant-loop-i
invariant-loop-i l = record {
  before : (k : ℕ) → k < l.from → slice_index l.bytes k ≡ slice_index l.fn.bytes k;
  inside : (k : ℕ) → l.from ≤ k → k < l.i → slice_index l.bytes k ≡ l.value;
  rest : (k : ℕ) → l.i ≤ k → slice_index l.bytes k ≡ slice_index l.fn.bytes k;
}
