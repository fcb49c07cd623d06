use Rattle.std.proofs.Common.{length, map, ap, sym, subst, ◌∙◌, ◌<◌, ◌^◌}
use Rattle.std.proofs.lemmas.Result.{on_ok_weaker}
use Rattle.sdh_rounds.specs.Outcome.{IsOneRound}
use Rattle.sdh_rounds.proofs.Keeping.{keeps_one, may_take}
use Rattle.sdh_terminal.specs.Tributaries.{outlets_of}
use Rattle.sdh_sncp.specs.Node.{PathNode}
use Rattle.sdh_sncp.specs.Stations.{path_node}
use Rattle.sdh_sncp.specs.Ring.{HeldPath, world}
use Rattle.sdh_sncp.specs.Placed.{IsPlacedPathRing}
use Rattle.sdh_sncp.specs.Fixed.{FixedPath, fixed_path}
use Rattle.sdh_sncp.proofs.Rings.{may_receive, may_send, ring_after}
use Rattle.sdh_sncp.proofs.Keeping.{fixed_told, fixed_next, ports_fixed}
use Rattle.sdh_sncp.proofs.Wholes.{whole_after}
use Rattle.sdh_sncp.proofs.ring.PathRing.round.Goals as goal

pub round-result-requires-clause-rates : goal.round-result-requires-clause-rates
round-result-requires-clause-rates g c = may_receive _ c.self.invariant.ring

pub round-result-requires-clause-may : goal.round-result-requires-clause-may
round-result-requires-clause-may g c =
    may_send _ c.self.invariant.ring (ap (λ (r : HeldPath). r.broken) c.self.view_is ∙ c.requires.whole)
    (subst (λ (r : HeldPath). r.rounds < 2 ^ 32) (sym c.self.view_is) c.requires.room)

pub take-requires : goal.take-requires
take-requires g c =
    let w = world c.self.inside.ring (g.P.Plant.fibres c.args.plant.now) in
    let left = world c.round-result.new.self (g.P.Plant.fibres c.round-result.new.plant) in
    may_take (λ (n : PathNode). outlets_of n.ports) fixed_path (λ (f : FixedPath). length f.ports) ports_fixed
    c.self.inside.deliveries c.self.inside.ring.nodes c.nodes_of.result.now c.self.invariant.delivered
    (ap (map fixed_path) c.nodes_of.ensures
    ∙ keeps_one path_node fixed_path fixed_told (λ _. fixed_next) g.P.Plant.exact w left c.round-result.result _ _
    c.round-result.ensures)

pub invariant_of-self : goal.invariant_of-self
invariant_of-self g c = record {
  ring = ring_after g.P.Plant.exact (world _ (g.P.Plant.fibres c.args.plant.now)) (world _ (g.P.Plant.fibres c.round-result.new.plant)) _ _ _
      c.self.invariant.ring (ap (λ (r : HeldPath). r.broken) c.self.view_is ∙ c.requires.whole) c.round-result.ensures;
  delivered = c.take.ensures ∙ ap (map (λ (n : PathNode). outlets_of n.ports)) c.nodes_of.ensures;
}

pub returns : goal.returns
returns g c =
    let f = g.P.Plant.fibres c.args.plant.now in
    let one =
    subst (λ (r : HeldPath). IsOneRound path_node g.P.Plant.exact (world r f) c.round-result.result
    (world c.round-result.new.self (g.P.Plant.fibres c.round-result.new.plant)) (g.P.Plant.faults c.args.plant.now)
    (g.P.Plant.faults c.round-result.new.plant)) c.self.view_is c.round-result.ensures in
    let placed = subst IsPlacedPathRing c.self.view_is
    (c.self.invariant.ring.placed (ap (λ (r : HeldPath). r.broken) c.self.view_is ∙ c.requires.whole)) in
    record {
      ok = one.ok;
      prepared = one.prepared;
      paired = on_ok_weaker c.round-result.result (λ is paired. (whole_after _ _ is (record { placed = placed; paired = paired })).paired) one.ok;
      err = one.err;
      broken = one.broken;
      breaks = one.breaks;
      later = one.later;
      failed = one.failed;
      counted = one.counted;
    }
