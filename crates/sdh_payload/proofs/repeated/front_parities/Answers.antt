use Rattle.std.proofs.Common.{◌≡◌, take, get_or, replicate, refl, ap, sym, ◌∙◌, arith}
use Rattle.std.proofs.lemmas.List.{length-set}
use Rattle.sdh_basics.specs.Parity.{bip8}
use Rattle.sdh_basics.proofs.ParityLaws.{bip8-nil}
use Rattle.sdh_payload.proofs.Repeating.{front_more}
use Rattle.sdh_payload.proofs.repeated.front_parities.Goals as goal

pub loop-i-init : goal.loop-i-init
loop-i-init c = record {
  long = refl;
  each = λ k h. let z : k ≡ 0 =
      omega arith in ap (λ i. get_or (replicate 325 0) i 0) z ∙ sym (ap (λ i. bip8 (take i c.args.bytes.now)) z ∙ bip8-nil);
}

pub loop-i-preserved : goal.loop-i-preserved
loop-i-preserved c = record {
  long = length-set c.loop-i.parities _ _ ∙ c.loop-i.invariant.long;
  each =
      front_more c.args.bytes.now c.loop-i.parities c.loop-i.i (omega (arith, c.requires, c.loop-i-test.true))
      (omega (arith, c.loop-i.invariant.long, c.loop-i-test.true)) (omega arith) c.loop-i.invariant.each;
}
