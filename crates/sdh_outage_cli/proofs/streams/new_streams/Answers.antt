use Rattle.std.proofs.Common.{◌≡◌, ◌+◌, length, Some, ap, sym, subst, ◌∙◌, arith}
use Rattle.std.specs.Prelude.{slice_get}
use Rattle.std.proofs.lemmas.List.{length_push}
use Rattle.std.proofs.lemmas.Option.{same_Some}
use Rattle.sdh_circuits.specs.Provisioned.{Provisioned}
use Rattle.sdh_outage_cli.specs.Streams.{IsNear}
use Rattle.sdh_outage_cli.proofs.Lists.{all_pushed}
use Rattle.sdh_outage_cli.proofs.streams.new_streams.Goals as goal

pub loop-i-preserved : goal.loop-i-preserved
loop-i-preserved c =
    let cs = c.args.circuits.now.circuits in
    let old = c.loop-i.pairs.items in
    let made = c.in_ok-pair_for.field-0 in
    let inv = c.loop-i.invariant in
    record {
      len = ap length c.in_ok-push.ensures.items ∙ length_push old made ∙ ap (λ n. n + 1) inv.len;
      each =
          λ j both here. all_pushed (λ k other. (x : Provisioned) → slice_get cs k ≡ Some x → IsNear x 0 other) old c.loop-i.i made inv.len
          (λ x there. subst (λ y. IsNear y 0 made) (same_Some _ _ (sym c.get.ensures ∙ there)) c.in_ok-pair_for.ensures) inv.each j both
          (subst (λ l. slice_get l j ≡ Some both) c.in_ok-push.ensures.items here);
    }

pub returns : goal.returns
returns c = record {
  many = omega (arith, c.loop-i.invariant.len, c.loop-i-test.false, c.loop-i.auto.i-end, c.len-count.ensures.len);
  each = λ i x both there here. c.loop-i.invariant.each i both here x there;
}
