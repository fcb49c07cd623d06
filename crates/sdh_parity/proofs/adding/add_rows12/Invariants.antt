use Rattle.std.proofs.Common.{◌≡◌, ℕ, ◌+◌, ◌*◌, ◌<◌, ◌≤◌, slice_index, length, bit_xor}
use Rattle.sdh_parity.proofs.adding.add_rows12.Given as goal

abbrev pub invariant-loop-i : goal.invariant-loop-i
invariant-loop-i l = record {
  long : length l.sums ≡ 48;
  done : (k : ℕ) → k < l.i → slice_index l.sums k ≡ bit_xor (slice_index l.fn.sums k)
      (bit_xor (slice_index l.front k) (slice_index l.fn.bytes (12 * l.fn.rows + k)));
  rest : (k : ℕ) → l.i ≤ k → slice_index l.sums k ≡ slice_index l.fn.sums k;
}
