use Rattle.std.proofs.Common.{◌≡◌, ◌+◌, ◌≤◌, ◌++◌, length, take, drop}
use Rattle.sdh_elastic.proofs.Chunks.{joined}
use Rattle.sdh_elastic.proofs.held.give.Given as goal

abbrev pub invariant-loop-i : goal.invariant-loop-i
invariant-loop-i l = record {
  room : length l.out + l.left ≤ 2352;
  run : l.out ++ take l.left (drop l.skip (joined (drop l.i l.chunks.items))) ≡ take l.fn.count (drop l.fn.skip (joined l.chunks.items));
}
