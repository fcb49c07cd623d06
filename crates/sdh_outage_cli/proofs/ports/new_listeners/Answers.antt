use Rattle.std.proofs.Common.{◌≡◌, ◌+◌, length, Some, ap, subst, ◌∙◌}
use Rattle.std.specs.Prelude.{slice_get}
use Rattle.std.proofs.lemmas.List.{length_push}
use Rattle.sdh_outage_cli.specs.declared.ports.ListenerPair.{ListenerPair}
use Rattle.sdh_outage_cli.proofs.Lists.{all_pushed}
use Rattle.sdh_outage_cli.proofs.ports.new_listeners.Goals as goal

pub loop-preserved : goal.loop-preserved
loop-preserved c =
    let old = c.loop.items.items in
    let made = c.in_ok-new_both.field-0 in
    let inv = c.loop.invariant in
    record {
      len = ap length c.in_ok-push.ensures.items ∙ length_push old made ∙ ap (λ n. n + 1) inv.len;
      each =
          λ j both here. all_pushed (λ k (other : ListenerPair). (other.a.round ≡ 0) × (other.b.round ≡ 0)) old c.loop.counter made inv.len
          c.in_ok-new_both.ensures inv.each j both
          (subst (λ l. slice_get l j ≡ Some both) c.in_ok-push.ensures.items here);
    }
