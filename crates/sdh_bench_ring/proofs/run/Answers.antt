use Rattle.std.proofs.Common.{length, refl, subst}
use Rattle.sdh_plant.specs.Fibres.{IsPrepared}
use Rattle.sdh_node.specs.Rings.Held.{HeldRing}
use Rattle.sdh_node.specs.Rings.Rounds.{world}
use Rattle.sdh_ring.proofs.Turns.{held_more}
use Rattle.sdh_bench_ring.proofs.run.Goals as goal

pub turns-preserved : goal.turns-preserved
turns-preserved g c =
    let from = c.args.ring.now in
    let now = c.turns.ring in
    let held = c.turns.invariant.held in
    record {
      held =
          held_more from now (world c.round.new.self (g.P.Plant.fibres c.round.new.plant))
          (world now (g.P.Plant.fibres c.turns.plant)) c.turns._turn held refl c.in_ok-round.ensures.ok;
      prepared =
          subst (λ (r : HeldRing). IsPrepared r.settings.rate (length r.ids)
          (g.P.Plant.fibres c.round.new.plant)) held c.in_ok-round.ensures.prepared;
    }
