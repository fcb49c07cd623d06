use Rattle.std.proofs.Common.{◌≡◌, ◌<◌, length, Some, refl, ap, sym, subst, ◌∙◌, arith}
use Rattle.std.specs.Prelude.{slice_get}
use Rattle.std.proofs.Math.ListN.{length-set}
use Rattle.std.proofs.lemmas.Option.{same_Some, slice_get_read, slice_get_within}
use Rattle.sdh_circuits.specs.Provisioning.{Provisioning}
use Rattle.sdh_scripts.proofs.Lists.{set_upto, set_behind}
use Rattle.sdh_node.specs.Rings.Held.{HeldRing}
use Rattle.sdh_outage_cli.specs.declared.ports.ListenerPair.{ListenerPair}
use Rattle.sdh_outage_cli.specs.Ports.{LookedAt}
use Rattle.sdh_outage_cli.specs.Streams.{AreEarly}
use Rattle.sdh_outage_cli.proofs.ports.look_node.Goals as goal

pub look_both-requires-clause-early : goal.look_both-requires-clause-early
look_both-requires-clause-early c = subst AreEarly (sym c.loop-i.invariant.streams) c.requires.early

pub look_both-requires-clause-few : goal.look_both-requires-clause-few
look_both-requires-clause-few c =
    let i = c.loop-i.i in
    let x = c.index_mut.result.now in
    let size : length c.circuits.result.now.circuits ≡ length c.args.node.now.ring.now.circuits.circuits =
    ap (λ (p : Provisioning). length p.circuits) c.circuits.ensures ∙ ap (λ (r : HeldRing). length r.circuits.circuits) c.stations.ensures in
    let lt : i < length c.loop-i.items.items =
    omega (arith, c.loop-i-test.true, c.len-i-end.ensures.len, size, c.loop-i.invariant.len, c.requires.many) in
    let was : slice_get c.args.items.now.items i ≡ Some x =
    sym (c.loop-i.invariant.rest i (omega arith)) ∙ slice_get_read c.loop-i.items.items _ i x refl lt c.index_mut.ensures.value in
    c.requires.few i x was

pub loop-i-preserved : goal.loop-i-preserved
loop-i-preserved c =
    let r = c.args.node.now.ring.now in
    let at = c.args.node.now.at.0 in
    let old = c.args.items.now.items in
    let ws = c.loop-i.items.items in
    let i = c.loop-i.i in
    let inv = c.loop-i.invariant in
    let x = c.index_mut.result.now in
    let y = c.look_both.new.both in
    let size : length c.circuits.result.now.circuits ≡ length r.circuits.circuits =
    ap (λ (p : Provisioning). length p.circuits) c.circuits.ensures ∙ ap (λ (r : HeldRing). length r.circuits.circuits) c.stations.ensures in
    let lt : i < length ws = omega (arith, c.loop-i-test.true, c.len-i-end.ensures.len, size, inv.len, c.requires.many) in
    let was : slice_get old i ≡ Some x = sym (inv.rest i (omega arith)) ∙ slice_get_read ws _ i x refl lt c.index_mut.ensures.value in
    record {
      len = simp length-set (omega arith);
      each = set_upto (λ j after. (before : ListenerPair) → slice_get old j ≡ Some before → LookedAt r at c.args.streams.now.pairs.items j before after) ws i y lt
          (λ before there. subst (λ b. LookedAt r at c.args.streams.now.pairs.items i b y) (same_Some _ _ (sym was ∙ there))
          (subst (λ l. LookedAt r at l i x y) inv.streams c.look_both.ensures.looked)) inv.each;
      streams = c.look_both.ensures.streams ∙ inv.streams;
      rest = λ j le. set_behind ws i y j (omega arith) ∙ inv.rest j (omega arith);
    }

pub returns-clause-each : goal.returns-clause-each
returns-clause-each c =
    let size : length c.circuits.result.now.circuits ≡ length c.args.node.now.ring.now.circuits.circuits =
    ap (λ (p : Provisioning). length p.circuits) c.circuits.ensures ∙ ap (λ (r : HeldRing). length r.circuits.circuits) c.stations.ensures in
    λ i before after was at. c.loop-i.invariant.each i after
    (let h = slice_get_within c.loop-i.items.items i after at in omega
    (arith, h, size, c.loop-i-test.false, c.len-i-end.ensures.len, c.loop-i.invariant.len, c.requires.many)) at before was
