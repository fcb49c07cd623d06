use Rattle.std.proofs.Common.{◌≡◌, ℕ, ◌*◌, ◌<◌, ◌≤◌, slice_index, bit_xor}
use Rattle.sdh_parity.specs.Scrambling.{scrambling_byte}
use Rattle.sdh_parity.proofs.scrambler.add_sequence.Given as goal

abbrev pub invariant-loop-b : goal.invariant-loop-b
invariant-loop-b l = record {
  done : (k : ℕ) → k < l.b * 1016 → slice_index l.bytes k ≡ bit_xor (slice_index l.fn.bytes k) (scrambling_byte k);
  rest : (k : ℕ) → l.b * 1016 ≤ k → slice_index l.bytes k ≡ slice_index l.fn.bytes k;
}
