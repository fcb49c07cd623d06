use Rattle.std.proofs.Common.{◌≡◌, ℕ, ◌%◌, ◌<◌, length, get_or}
use Rattle.sdh_payload.specs.Stream.{padded}
use Rattle.sdh_path.proofs.trace.padded.Given as goal

abbrev pub invariant-loop-i : goal.invariant-loop-i
invariant-loop-i l = record {
  enough : length l.all ≡ 64;
  same : (k : ℕ) → k < l.i → get_or l.all k 0 ≡ get_or (padded l.trace) (k % 64) 0;
}
