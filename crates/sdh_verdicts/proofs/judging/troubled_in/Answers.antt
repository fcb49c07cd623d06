use Rattle.std.proofs.Common.{◌∙◌, Bool, false, map, arith}
use Rattle.std.proofs.lemmas.List.{length-set}
use Rattle.sdh_ringmap.specs.Requests.{code_number}
use Rattle.sdh_verdicts.specs.Verdicts.{is_troubled}
use Rattle.sdh_verdicts.proofs.Asking.{set_next}
use Rattle.sdh_verdicts.proofs.Sets.{of_marks}
use Rattle.sdh_verdicts.proofs.judging.troubled_in.Goals as goal

pub loop-i-preserved : goal.loop-i-preserved
loop-i-preserved c = record {
  long = length-set c.loop-i.marks c.loop-i.i c.is_troubled.result ∙ c.loop-i.invariant.long;
  each =
      set_next (λ (b : Bool). b) (is_troubled (map code_number c.args.requests.now)) c.loop-i.marks c.loop-i.i c.is_troubled.result false
      (omega (arith, c.loop-i-test.true, c.requires.few, c.loop-i.invariant.long)) c.loop-i.invariant.each c.is_troubled.ensures;
}

pub returns : goal.returns
returns c =
    of_marks _ (is_troubled (map code_number c.args.requests.now)) c.loop-i.marks c.set_of.result c.requires.some
    (omega (arith, c.requires.few, c.loop-i.invariant.long)) (λ s low. c.loop-i.invariant.each s (omega (arith, low, c.loop-i-test.false)))
    c.set_of.ensures
