use Rattle.std.proofs.Common.{◌≡◌, ℕ, ◌+◌, ◌<◌, ◌≤◌, slice_index, bit_xor}
use Rattle.sdh_parity.specs.Scrambling.{scrambling_byte}
use Rattle.sdh_parity.proofs.through.add_key.Given as goal

abbrev pub invariant-loop-i : goal.invariant-loop-i
invariant-loop-i l = record {
  done : (i : ℕ) → i < l.i → slice_index l.bytes i ≡ bit_xor (slice_index l.fn.bytes i) (scrambling_byte (l.k + i));
  rest : (i : ℕ) → l.i ≤ i → slice_index l.bytes i ≡ slice_index l.fn.bytes i;
}
