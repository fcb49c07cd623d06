use Rattle.std.proofs.Common.{length, subst, sym, ap, ◌∙◌}
use Rattle.sdh_payload.specs.Customer.{Customer}
use Rattle.sdh_payload.specs.Walk.{IsAt}
use Rattle.sdh_payload.proofs.Walking.{IsAt-first}
use Rattle.sdh_payload.proofs.walk.Walk.new.Goals as goal

pub invariant_of-result : goal.invariant_of-result
invariant_of-result c =
    let text = c.new-text.ensures ∙ c.text.ensures.text in
    let At : Customer → Type 0 = λ p. IsAt p 0 c.start_index-index.result 0 c.first_parity.result c.first_place-place.result in (
      subst At (sym c.copy.ensures)
          (IsAt-first c.args.port.now _ _ c.len.result _ c.text.ensures.some c.start_index-index.ensures.within c.first_parity.ensures
          (c.len.ensures.len ∙ ap length text) c.first_place-place.ensures),
      text ∙ sym (ap (λ (p : Customer). p.text) c.copy.ensures),
    )
