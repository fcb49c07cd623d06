use Rattle.std.proofs.Common.{◌≡◌, ℕ, List, ◌++◌, ◌%◌, ◌<◌, length, take}
use Rattle.sdh_parity.specs.Pieces.{HasLanes}
use Rattle.sdh_parity.proofs.adding.add_bytes.Given as goal

abbrev pub invariant-loop-i : goal.invariant-loop-i
invariant-loop-i l = record {
  small : l.lane < l.fn.width;
  long : length l.sums ≡ 48;
  each : (before : List ℕ) → l.fn.next ≡ length before % l.fn.width → HasLanes l.fn.width before l.fn.sums
      → (l.lane ≡ length (before ++ take l.i l.fn.bytes) % l.fn.width) × HasLanes l.fn.width (before ++ take l.i l.fn.bytes) l.sums;
}
