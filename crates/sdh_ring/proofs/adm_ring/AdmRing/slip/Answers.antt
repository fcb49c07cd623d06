use Rattle.std.proofs.Common.{◌≡◌, [], ◌+◌, ◌≤◌, length, ap, subst, sym, ◌∙◌, arith, vec_capacity}
use Rattle.sdh_terminal.specs.Tributaries.{HasPort, waiting_of}
use Rattle.sdh_node.specs.Node.{Node, slips_at}
use Rattle.sdh_node.specs.Rings.Held.{HeldRing, at_place, place_of_port}
use Rattle.sdh_node.specs.Rings.Clocks.{waiting_at}
use Rattle.sdh_node.specs.Rings.Fixed.{IsRing}
use Rattle.sdh_node.proofs.RingLaws.Keeping.{all_slipped}
use Rattle.sdh_node.proofs.RingLaws.Clocks.{all_on_slipped}
use Rattle.sdh_ring.proofs.Nodes.{node_placed, node_seen}
use Rattle.sdh_ring.proofs.Owned.{owned_at, waits_there}
use Rattle.sdh_ring.proofs.Rings.{ring_with}
use Rattle.sdh_ring.proofs.adm_ring.AdmRing.slip.Goals as goal

pub slip-requires-clause-there : goal.slip-requires-clause-there
slip-requires-clause-there g c =
    let r = c.self.inside.ring in
    let port = owned_at r c.self.invariant.ring c.args.port _ c.place_of-at.ensures in
    let seen = ap (λ a. a.ring) c.self-inside.view_is in
    subst (λ (n : Node). HasPort n.ports c.args.port) (node_seen _ r _ _ seen port.inside c.index_mut-node.ensures.value) port.has

pub slip-requires-clause-few : goal.slip-requires-clause-few
slip-requires-clause-few g c =
    let r = c.self.inside.ring in
    let port = owned_at r c.self.invariant.ring c.args.port _ c.place_of-at.ensures in
    let seen = ap (λ a. a.ring) c.self-inside.view_is in
    let few : waiting_at r c.args.port + c.args.count ≤ 16 =
    subst (λ (x : HeldRing). waiting_at x c.args.port + c.args.count ≤ 16) (sym c.self.view_is) c.requires.few in
    let waits = waits_there r c.args.port _ port in
    subst (λ (n : Node). waiting_of c.args.port n.ports + c.args.count ≤ 16)
    (node_seen _ r _ _ seen port.inside c.index_mut-node.ensures.value) (omega (arith, waits, few))

pub invariant_of-self : goal.invariant_of-self
invariant_of-self g c =
    let r = c.self.inside.ring in
    let inv = c.self.invariant.ring in
    let port = owned_at r inv c.args.port _ c.place_of-at.ensures in
    let few = subst (λ (x : HeldRing). waiting_at x c.args.port + c.args.count ≤ 16) (sym c.self.view_is) c.requires.few in
    let spare = ap (λ a. a.spare) c.self-inside.view_is in
    let is = node_placed _ r (slips_at c.args.port c.args.turn c.args.count) c.place_of-at.result _ c.slip.new.self
    (ap (λ a. a.ring) c.self-inside.view_is) port.inside c.index_mut-node.ensures.value c.slip.ensures.node
    ∙ ap (λ p. record r { nodes = at_place p (slips_at c.args.port c.args.turn c.args.count) r.nodes }) port.place in
    record {
      ring = subst IsRing (sym is)
          (ring_with r _ r.moment r.rounds r.broken inv
          (all_slipped (place_of_port r c.args.port) c.args.port c.args.turn c.args.count r.nodes) inv.moment
          (λ whole. all_on_slipped r c.args.port c.args.turn c.args.count r.rounds r.moment few (inv.going whole)));
      spare = subst (λ v. v.items ≡ []) (sym spare) c.self.invariant.spare;
      room = subst (λ v. length c.self-inside.inside.0.0.map ≤ vec_capacity v) (sym spare)
          (subst (λ (x : HeldRing). length x.ids ≤ vec_capacity c.self.inside.spare) (sym is) c.self.invariant.room);
    }

pub returns : goal.returns
returns g c =
    let r = c.self.inside.ring in
    let port = owned_at r c.self.invariant.ring c.args.port _ c.place_of-at.ensures in
    node_placed _ r (slips_at c.args.port c.args.turn c.args.count) c.place_of-at.result _ c.slip.new.self
    (ap (λ a. a.ring) c.self-inside.view_is) port.inside c.index_mut-node.ensures.value c.slip.ensures.node
    ∙ ap (λ p. record r { nodes = at_place p (slips_at c.args.port c.args.turn c.args.count) r.nodes }) port.place
    ∙ ap (λ (x : HeldRing). record x {
      nodes = at_place (place_of_port x c.args.port) (slips_at c.args.port c.args.turn c.args.count) x.nodes;
    }) c.self.view_is
