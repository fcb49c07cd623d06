use Rattle.std.proofs.Common.{◌≡◌, ℕ, ◌+◌, ◌<◌, ◌≤◌, slice_index, bit_xor}
use Rattle.sdh_parity.specs.Scrambling.{scrambling_byte}
use Rattle.sdh_parity.proofs.pieces.add_within.Given as goal

abbrev pub invariant-loop-i : goal.invariant-loop-i
invariant-loop-i l = record {
  done : (k : ℕ) → k < l.i → slice_index l.part k ≡ bit_xor (slice_index l.fn.part k) (scrambling_byte (l.s + k));
  rest : (k : ℕ) → l.i ≤ k → slice_index l.part k ≡ slice_index l.fn.part k;
}
