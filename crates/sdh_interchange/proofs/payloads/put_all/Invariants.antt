use Rattle.std.proofs.Common.{◌≡◌, ℕ, ◌+◌, ◌<◌, length}
use Rattle.sdh_interchange.specs.Tables.{cell}
use Rattle.sdh_interchange.specs.Taking.{KeepsOthers}
use Rattle.sdh_interchange.proofs.payloads.put_all.Given as goal

abbrev pub invariant-loop-a : goal.invariant-loop-a
invariant-loop-a l = record {
  keeps : KeepsOthers l.base (length l.payloads) l.fn.out l.out;
  before : (a i : ℕ) → a < length l.payloads → i < l.at → cell l.out (l.base + a) i ≡ cell l.fn.out (l.base + a) i;
  inside : (a k : ℕ) → a < l.a → k < 16 → cell l.out (l.base + a) (l.at + k) ≡ cell l.payloads a k;
}
