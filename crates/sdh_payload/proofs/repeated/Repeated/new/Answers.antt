use Rattle.std.proofs.Common.{refl, arith}
use Rattle.sdh_payload.proofs.Repeating.{text_back, repeats_made}
use Rattle.sdh_payload.proofs.repeated.Repeated.new.Goals as goal

pub invariant_of-result : goal.invariant_of-result
invariant_of-result c = record {
  repeats = repeats_made _ _ c.requires.some c.requires.few c.loop-i.invariant.enough (λ k h. c.loop-i.invariant.same k (omega arith));
  parities = c.front_parities-parities.ensures;
  after_row = refl;
}

pub returns : goal.returns
returns c = text_back _ _ c.requires.some c.requires.few c.loop-i.invariant.enough (λ k h. c.loop-i.invariant.same k (omega arith))
