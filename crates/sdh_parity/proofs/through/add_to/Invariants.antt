use Rattle.std.proofs.Common.{◌≡◌, ℕ, ◌<◌, ◌≤◌, slice_index, bit_xor}
use Rattle.sdh_parity.proofs.through.add_to.Given as goal

abbrev pub invariant-loop-i : goal.invariant-loop-i
invariant-loop-i l = record {
  done : (k : ℕ) → k < l.i → slice_index l.sums k ≡ bit_xor (slice_index l.fn.sums k) (slice_index l.bytes k);
  rest : (k : ℕ) → l.i ≤ k → slice_index l.sums k ≡ slice_index l.fn.sums k;
}
