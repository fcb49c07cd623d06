use Rattle.std.proofs.Common.{◌≡◌, ℕ, ◌+◌, ◌<◌, slice_index, length}
use Rattle.sdh_basics.specs.Parity.{bip8}
use Rattle.sdh_parity.specs.Parity.{every}
use Rattle.sdh_parity.proofs.adding.columns48.Given as goal

abbrev pub invariant-loop-r : goal.invariant-loop-r
invariant-loop-r l = record {
  len : length l.all ≡ 16;
  each : (k : ℕ) → k < 16 → slice_index l.all k ≡ bip8 (every (l.at + k) 48 l.r l.bytes);
}
