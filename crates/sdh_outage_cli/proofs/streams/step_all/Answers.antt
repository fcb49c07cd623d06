use Rattle.std.proofs.Common.{◌≡◌, ◌<◌, length, Some, refl, sym, subst, ◌∙◌, arith}
use Rattle.std.specs.Prelude.{slice_get}
use Rattle.std.proofs.Math.ListN.{length-set}
use Rattle.std.proofs.lemmas.Option.{same_Some, slice_get_read, slice_get_within}
use Rattle.sdh_scripts.proofs.Lists.{set_upto, set_behind}
use Rattle.sdh_outage_cli.specs.declared.streams.StreamPair.{StreamPair}
use Rattle.sdh_outage_cli.specs.Streams.{HaveStepped}
use Rattle.sdh_outage_cli.proofs.streams.step_all.Goals as goal

pub step-requires : goal.step-requires
step-requires c =
    let i = c.loop-i.i in
    let x = c.index_mut.result.now in
    let lt : i < length c.loop-i.streams.pairs.items = omega (arith, c.loop-i-test.true, c.loop-i.auto.i-end, c.loop-i.invariant.len) in
    let was : slice_get c.args.streams.now.pairs.items i ≡ Some x =
    sym (c.loop-i.invariant.rest i (omega arith)) ∙ slice_get_read c.loop-i.streams.pairs.items _ i x refl lt c.index_mut.ensures.value in
    let h = c.requires i x was in
    (omega (arith, h.0), omega (arith, h.1))

pub loop-i-preserved : goal.loop-i-preserved
loop-i-preserved c =
    let old = c.args.streams.now.pairs.items in
    let ws = c.loop-i.streams.pairs.items in
    let i = c.loop-i.i in
    let inv = c.loop-i.invariant in
    let x = c.index_mut.result.now in
    let y = c.step.new.self in
    let lt : i < length ws = omega (arith, c.loop-i-test.true, c.loop-i.auto.i-end, inv.len) in
    let was : slice_get old i ≡ Some x = sym (inv.rest i (omega arith)) ∙ slice_get_read ws _ i x refl lt c.index_mut.ensures.value in
    record {
      len = simp length-set (omega arith);
      each = set_upto (λ j after. (before : StreamPair) → slice_get old j ≡ Some before → HaveStepped before after) ws i y lt
          (λ before there. subst (λ b. HaveStepped b y) (same_Some _ _ (sym was ∙ there)) c.step.ensures) inv.each;
      rest = λ j le. set_behind ws i y j (omega arith) ∙ inv.rest j (omega arith);
    }

pub returns-clause-each : goal.returns-clause-each
returns-clause-each c =
    λ i before after was at. c.loop-i.invariant.each i after
    (let h = slice_get_within c.loop-i.streams.pairs.items i after at in omega
    (arith, h, c.loop-i-test.false, c.loop-i.auto.i-end, c.loop-i.invariant.len)) at before was
