use Rattle.std.proofs.Common.{◌+◌, ◌%◌, ◌∙◌, ℕ, Bool, false, length, get_or, refl, arith}
use Rattle.std.proofs.lemmas.List.{length-set}
use Rattle.sdh_verdicts.proofs.Counts.{count_fits, count_next}
use Rattle.sdh_verdicts.proofs.judging.set_of.Goals as goal

pub overflow_add-before : goal.overflow_add-before
overflow_add-before c =
    let marks = c.args.marks.now in
    let n = length marks in
    let p : ℕ → Bool = λ k. get_or marks (k % n) false in
    record {
      fits = count_fits p c.loop-i.before c.loop-i.i c.from.result (p c.loop-i.i) c.loop-i.invariant.before
          (omega (arith, c.loop-i-test.true, c.requires.few)) c.from.ensures;
    }

pub loop-i-preserved : goal.loop-i-preserved
loop-i-preserved c =
    let marks = c.args.marks.now in
    let n = length marks in
    let p : ℕ → Bool = λ k. get_or marks (k % n) false in
    let i = c.loop-i.i in
    record {
      before =
          count_next p c.loop-i.before i c.from.result (p i) c.loop-i.invariant.before
          (omega (arith, c.loop-i-test.true, c.requires.few, c.loop-i.invariant.long)) c.from.ensures refl;
      long = length-set c.loop-i.before (i + 1) _ ∙ c.loop-i.invariant.long;
    }
