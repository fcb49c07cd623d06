use Rattle.std.proofs.Common.{sym, ◌∙◌, ap, arith}
use Rattle.sdh_plan.proofs.Cutting.{left, said_push, said_full}
use Rattle.sdh_plan.proofs.words.words_of.Goals as goal

pub loop-rest-preserved-then-len-lt6 : goal.loop-rest-preserved-then-len-lt6
loop-rest-preserved-then-len-lt6 c = record {
  said = said_push (λ word. word.now) 6 _ _ _ c.cut.result.0 _ _ c.loop-rest.invariant.said c.push.ensures.items (omega arith)
      (ap (left (λ word. word.now)) c.in-Some.is ∙ c.cut.ensures.cut) (sym c.if-is_empty.ensures);
  few = omega (arith, c.push.ensures.len);
}

pub loop-rest-preserved : goal.loop-rest-preserved
loop-rest-preserved c = record {
  said = said_full (λ word. word.now) 6 _ _ c.cut.result.0 _ _ c.loop-rest.invariant.said (omega arith)
      (ap (left (λ word. word.now)) c.in-Some.is ∙ c.cut.ensures.cut) (sym c.if-is_empty.ensures);
  few = omega arith;
}
