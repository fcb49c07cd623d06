use Rattle.std.proofs.Common.{sym, subst, ◌∙◌, ◌≤◌, length, vec_capacity, arith}
use Rattle.sdh_node.specs.Rings.Held.{HeldRing}
use Rattle.sdh_node.specs.Rings.Fixed.{IsRing}
use Rattle.sdh_ring.proofs.Rings.{fresh_is, new_is_ring}
use Rattle.sdh_ring.proofs.adm_ring.AdmRing.try_new.Goals as goal

pub invariant_of-result : goal.invariant_of-result
invariant_of-result g c =
    let new = c.in_ok-ring.ensures ∙ fresh_is c.args.settings c.args.map c.args.circuits in
    record {
      ring = subst IsRing (sym new)
          (new_is_ring c.args.settings c.args.map c.args.circuits c.len.ensures.ids c.len-2.ensures.form c.requires.slots c.requires.kept);
      spare = c.in_ok-spare.ensures.items;
      room =
          let cap = c.in_ok-spare.ensures.capacity in
          let len = c.len-3.ensures.len in
          subst (λ (r : HeldRing). length r.ids ≤ vec_capacity c.in_ok-spare.spare) (sym new) (omega arith);
    }
