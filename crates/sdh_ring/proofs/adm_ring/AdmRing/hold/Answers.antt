use Rattle.std.proofs.Common.{◌≡◌, [], ◌≤◌, length, ap, subst, sym, ◌∙◌, vec_capacity}
use Rattle.sdh_node.specs.Node.{held_for}
use Rattle.sdh_node.specs.Rings.Held.{HeldRing, at_place}
use Rattle.sdh_node.specs.Rings.Fixed.{IsRing}
use Rattle.sdh_node.proofs.RingLaws.Keeping.{all_held, all_on_held}
use Rattle.sdh_ring.proofs.Nodes.{node_placed}
use Rattle.sdh_ring.proofs.Rings.{place_in, ring_with}
use Rattle.sdh_ring.proofs.adm_ring.AdmRing.hold.Goals as goal

pub invariant_of-self : goal.invariant_of-self
invariant_of-self g c =
    let r = c.self.inside.ring in
    let inv = c.self.invariant.ring in
    let spare = ap (λ a. a.spare) c.self-inside.view_is in
    let is = node_placed _ r (held_for c.args.turns) c.args.at.0 _ c.hold.new.self (ap (λ a. a.ring) c.self-inside.view_is) (place_in r _ _ c.self.view_is inv c.requires.at)
    c.index_mut-node.ensures.value c.hold.ensures.node in
    record {
      ring = subst IsRing (sym is)
          (ring_with r _ r.moment r.rounds r.broken inv (all_held c.args.at.0 c.args.turns r.nodes) inv.moment
          (λ whole. all_on_held c.args.at.0 c.args.turns r.rounds r.moment r.nodes (inv.going whole)));
      spare = subst (λ v. v.items ≡ []) (sym spare) c.self.invariant.spare;
      room = subst (λ v. length c.self-inside.inside.0.0.map ≤ vec_capacity v) (sym spare)
          (subst (λ (x : HeldRing). length x.ids ≤ vec_capacity c.self.inside.spare) (sym is) c.self.invariant.room);
    }

pub returns : goal.returns
returns g c =
    node_placed _ _ (held_for c.args.turns) c.args.at.0 _ c.hold.new.self (ap (λ a. a.ring) c.self-inside.view_is) (place_in _ _ _ c.self.view_is c.self.invariant.ring c.requires.at)
    c.index_mut-node.ensures.value c.hold.ensures.node
    ∙ ap (λ (x : HeldRing). record x { nodes = at_place c.args.at.0 (held_for c.args.turns) x.nodes }) c.self.view_is
