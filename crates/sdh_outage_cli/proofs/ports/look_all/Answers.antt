use Rattle.std.proofs.Common.{◌≡◌, ◌+◌, ◌-◌, length, refl, ap, sym, subst, ◌∙◌, arith}
use Rattle.std.proofs.lemmas.Option.{slice_get_within}
use Rattle.std.proofs.lemmas.Option.{same_Some}
use Rattle.sdh_scripts.proofs.Lists.{some_at}
use Rattle.sdh_outage_cli.specs.Ports.{LookedAt}
use Rattle.sdh_outage_cli.proofs.Nodes.{LookedFrom, looked_none, looked_more, few_at, looked_all}
use Rattle.sdh_outage_cli.proofs.ports.look_all.Goals as goal

pub loop-i-init : goal.loop-i-init
loop-i-init c = record {
  len = refl;
  each =
      λ j before after was here. looked_none c.args.ring.now (length c.args.ring.now.ids - 0) c.args.streams.now.pairs.items j before after
      (omega arith) (sym (same_Some before after (sym was ∙ here)));
  streams = refl;
  rooms = refl;
}

pub look_there-requires-clause-few : goal.look_there-requires-clause-few
look_there-requires-clause-few c = λ i both here.
    let r = c.args.ring.now in
    let streams = c.args.streams.now.pairs.items in
    let old = c.args.items.now.items in
    let turn = c.loop-i.i in
    let at = c.len-count.result - 1 - turn in
    let inv = c.loop-i.invariant in
    let size : c.len-count.result ≡ length r.ids = c.len-count.ensures.len ∙ ap length c.map.ensures in
    let was = some_at old i (let h = slice_get_within c.loop-i.items.items i both here in omega (arith, h, inv.len)) in
    let next : length r.ids - turn ≡ at + 1 = omega (arith, size, c.loop-i-test.true) in
    few_at r at i streams was.0 both
    (subst (λ low. LookedFrom r low streams i was.0 both) next (inv.each i was.0 both was.1 here)) (c.requires.few i was.0 was.1)

pub loop-i-preserved : goal.loop-i-preserved
loop-i-preserved c =
    let r = c.args.ring.now in
    let streams = c.args.streams.now.pairs.items in
    let turn = c.loop-i.i in
    let at = c.len-count.result - 1 - turn in
    let inv = c.loop-i.invariant in
    let size : c.len-count.result ≡ length r.ids = c.len-count.ensures.len ∙ ap length c.map.ensures in
    let now : length r.ids - turn ≡ at + 1 = omega (arith, size, c.loop-i-test.true) in
    let next : at ≡ length r.ids - (turn + 1) = omega (arith, size, c.loop-i-test.true) in
    record {
      len = c.look_there.ensures.many ∙ inv.len;
      each = λ j before after was here. (
          let mid = some_at c.loop-i.items.items j
          (let h = slice_get_within c.look_there.new.items.items j after here in omega (arith, h, c.look_there.ensures.many)) in
          let were = subst (λ low. LookedFrom r low streams j before mid.0) now (inv.each j before mid.0 was mid.1) in
          let looked = subst (λ l. LookedAt r at l j mid.0 after) inv.streams (c.look_there.ensures.each j mid.0 after mid.1 here) in
          subst (λ low. LookedFrom r low streams j before after) next (looked_more r at streams j before mid.0 after were looked));
      streams = c.look_there.ensures.streams ∙ inv.streams;
      rooms = c.look_there.ensures.rooms ∙ inv.rooms;
    }

pub returns-clause-each : goal.returns-clause-each
returns-clause-each c = λ i before after was here.
    let r = c.args.ring.now in
    let streams = c.args.streams.now.pairs.items in
    let size : c.len-count.result ≡ length r.ids = c.len-count.ensures.len ∙ ap length c.map.ensures in
    let low = length r.ids - c.loop-i.i in
    looked_all r _ low streams i before after c.circuits_fit.ensures
    (let h = slice_get_within c.args.items.now.items i before was in omega (arith, h, c.requires.many))
    (omega (arith, size, c.loop-i-test.false)) (c.loop-i.invariant.each i before after was here)
