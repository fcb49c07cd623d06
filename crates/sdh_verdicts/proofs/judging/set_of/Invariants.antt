use Rattle.std.proofs.Common.{◌≡◌, ◌≤◌, ◌%◌, ℕ, false, length, get_or}
use Rattle.std.specs.Prelude.{slice_index}
use Rattle.sdh_verdicts.specs.Verdicts.{count_below}
use Rattle.sdh_verdicts.proofs.judging.set_of.Given as goal

abbrev pub invariant-loop-i : goal.invariant-loop-i
invariant-loop-i l = record {
  before : (j : ℕ) → j ≤ l.i → slice_index l.before j ≡ count_below (λ k. get_or l.fn.marks (k % length l.fn.marks) false) j;
  long : length l.before ≡ 33;
}
