use Rattle.std.proofs.Common.{◌≡◌, [], ◌≤◌, length, ap, subst, sym, ◌∙◌, vec_capacity}
use Rattle.sdh_node.specs.Node.{at_receiving}
use Rattle.sdh_node.specs.Receiving.{commanded_by}
use Rattle.sdh_node.specs.Rings.Held.{HeldRing, at_place}
use Rattle.sdh_node.specs.Rings.Fixed.{IsRing}
use Rattle.sdh_node.proofs.RingLaws.Keeping.{all_commanded, all_on_commanded}
use Rattle.sdh_ring.proofs.Nodes.{node_placed}
use Rattle.sdh_ring.proofs.Rings.{place_in, ring_with}
use Rattle.sdh_ring.proofs.adm_ring.AdmRing.command.Goals as goal

pub invariant_of-self : goal.invariant_of-self
invariant_of-self g c =
    let r = c.self.inside.ring in
    let inv = c.self.invariant.ring in
    let spare = ap (λ a. a.spare) c.self-inside.view_is in
    let is = node_placed _ r (at_receiving c.args.side (commanded_by c.args.command)) c.args.at.0 _ c.command.new.self (ap (λ a. a.ring) c.self-inside.view_is) (place_in r _ _ c.self.view_is inv c.requires)
    c.index_mut-node.ensures.value c.command.ensures.node in
    record {
      ring = subst IsRing (sym is)
          (ring_with r _ r.moment r.rounds r.broken inv (all_commanded c.args.at.0 c.args.side c.args.command r.nodes) inv.moment
          (λ whole. all_on_commanded c.args.at.0 c.args.side c.args.command r.rounds r.moment r.nodes (inv.going whole)));
      spare = subst (λ v. v.items ≡ []) (sym spare) c.self.invariant.spare;
      room = subst (λ v. length c.self-inside.inside.0.0.map ≤ vec_capacity v) (sym spare)
          (subst (λ (x : HeldRing). length x.ids ≤ vec_capacity c.self.inside.spare) (sym is) c.self.invariant.room);
    }

pub returns : goal.returns
returns g c =
    node_placed _ _ (at_receiving c.args.side (commanded_by c.args.command)) c.args.at.0 _ c.command.new.self (ap (λ a. a.ring) c.self-inside.view_is) (place_in _ _ _ c.self.view_is c.self.invariant.ring c.requires)
    c.index_mut-node.ensures.value c.command.ensures.node
    ∙ ap (λ (x : HeldRing). record x { nodes = at_place c.args.at.0 (at_receiving c.args.side (commanded_by c.args.command)) x.nodes }) c.self.view_is
