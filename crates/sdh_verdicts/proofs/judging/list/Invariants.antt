use Rattle.std.proofs.Common.{◌≡◌, ◌≤◌, false, length, get_or, take}
use Rattle.sdh_verdicts.specs.Verdicts.{numbers_of, places_below}
use Rattle.sdh_verdicts.proofs.Hops.{AreListed}
use Rattle.sdh_verdicts.proofs.judging.list.Given as goal

abbrev pub invariant-loop-i : goal.invariant-loop-i
invariant-loop-i l = record {
  are : AreListed (λ s. get_or l.fn.marks s false) l.spans l.many l.i;
  listed : numbers_of (take l.many l.spans) ≡ places_below (λ s. get_or l.fn.marks s false) l.i;
  low : l.many ≤ l.i;
  long : length l.spans ≡ 16;
}
