use Rattle.std.proofs.Common.{◌≡◌, ℕ, ◌<◌, ◌%◌, length, get_or}
use Rattle.sdh_payload.proofs.repeated.Repeated.new.Given as goal

abbrev pub invariant-loop-i : goal.invariant-loop-i
invariant-loop-i l = record {
  enough : length l.bytes ≡ 324;
  same : (k : ℕ) → k < l.i → get_or l.bytes k 0 ≡ get_or l.text (k % l.len) 0;
}
