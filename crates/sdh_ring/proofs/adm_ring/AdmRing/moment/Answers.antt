use Rattle.std.proofs.Common.{◌≤◌, sym, subst, length, vec_capacity}
use Rattle.sdh_node.specs.Rings.Held.{HeldRing}
use Rattle.sdh_node.specs.Rings.Fixed.{IsRing}
use Rattle.sdh_ring.proofs.Rings.{ring_later}
use Rattle.sdh_ring.proofs.adm_ring.AdmRing.moment.Goals as goal

pub invariant_of-self : goal.invariant_of-self
invariant_of-self g c = record {
  ring =
      subst IsRing (sym c.moment.ensures)
      (ring_later _ c.args.now.0 c.self.invariant.ring (subst (λ (r : HeldRing). r.moment ≤ c.args.now.0) (sym c.self.view_is) c.requires.later)
      c.requires.within);
  spare = c.self.invariant.spare;
  room = subst (λ (r : HeldRing). length r.ids ≤ vec_capacity c.self.inside.spare) (sym c.moment.ensures) c.self.invariant.room;
}
