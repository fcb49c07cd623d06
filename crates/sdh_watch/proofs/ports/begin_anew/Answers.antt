use Rattle.std.proofs.Common.{◌≡◌, ◌<◌, ◌≤◌, length, Some, [], sym, subst, ◌∙◌, arith}
use Rattle.std.specs.Prelude.{slice_get}
use Rattle.std.proofs.Math.ListN.{length-set}
use Rattle.std.proofs.lemmas.Option.{same_Some, slice_get_within}
use Rattle.sdh_circuits.specs.Provisioned.{Provisioned}
use Rattle.sdh_scripts.proofs.Lists.{set_upto}
use Rattle.sdh_watch.specs.Ports.{IsWatching}
use Rattle.sdh_watch.proofs.ports.begin_anew.Goals as goal

pub loop-i-preserved : goal.loop-i-preserved
loop-i-preserved c =
    let cs = c.args.circuits.now.circuits in
    let ws = c.loop-i.watches.items in
    let i = c.loop-i.i in
    let inv = c.loop-i.invariant in
    let made = c.pair_for.result in
    let lt : i < length ws = omega arith in
    record {
      len = simp length-set (omega arith);
      new = set_upto (λ j both. (x : Provisioned) → slice_get cs j ≡ Some x → IsWatching x j (λ port. []) both) ws i made lt
          (λ x there. subst (λ y. IsWatching y i (λ port. []) made) (same_Some _ _ (sym c.get.ensures ∙ there))
          (c.pair_for.ensures.new i)) inv.new;
      few =
          set_upto (λ j both. (both.a.chunks ≤ 0) × (both.b.chunks ≤ 0)) ws i made lt
          (let h = c.pair_for.ensures.few in (omega (arith, h.0), omega (arith, h.1))) inv.few;
    }

pub returns-clause-new : goal.returns-clause-new
returns-clause-new c =
    let inv = c.loop-i.invariant in
    record {
      many = inv.len;
      each = λ j x both there at. inv.new j both (let h = slice_get_within c.loop-i.watches.items j both at in omega arith) at x there;
    }

pub returns-clause-few : goal.returns-clause-few
returns-clause-few c =
    λ j both at. c.loop-i.invariant.few j both (let h = slice_get_within c.loop-i.watches.items j both at in omega arith) at
