use Rattle.std.proofs.Common.{◌≡◌, ℕ, ◌≤◌, length, take, get_or}
use Rattle.sdh_basics.specs.Parity.{bip8}
use Rattle.sdh_payload.proofs.repeated.front_parities.Given as goal

abbrev pub invariant-loop-i : goal.invariant-loop-i
invariant-loop-i l = record {
  long : length l.parities ≡ 325;
  each : (k : ℕ) → k ≤ l.i → get_or l.parities k 0 ≡ bip8 (take k l.bytes);
}
