use Rattle.std.proofs.Common.{◌≡◌, ℕ, ◌<◌, ◌≤◌, slice_index, bit_xor}
use Rattle.sdh_plant.proofs.frames.invert_row_6.Given as goal

abbrev pub invariant-loop-i : goal.invariant-loop-i
invariant-loop-i l = record {
  before : (k : ℕ) → k < l.first → slice_index l.bytes k ≡ slice_index l.fn.bytes k;
  inside : (k : ℕ) → l.first ≤ k → k < l.i → slice_index l.bytes k ≡ bit_xor (slice_index l.fn.bytes k) 0x80;
  rest : (k : ℕ) → l.i ≤ k → slice_index l.bytes k ≡ slice_index l.fn.bytes k;
}
