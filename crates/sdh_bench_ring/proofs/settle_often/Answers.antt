use Rattle.std.proofs.Common.{◌≡◌, false, length, sym, subst, rules}
use Rattle.sdh_request.specs.declared.settings.Settings.{Settings}
use Rattle.sdh_plant.specs.Fibres.{IsPrepared}
use Rattle.sdh_node.specs.Rings.Rounds.{world}
use Rattle.sdh_bench_ring.proofs.Staying.{stays_step}
use Rattle.sdh_bench_ring.proofs.settle_often.Goals as goal

pub steps-preserved : goal.steps-preserved
steps-preserved g c =
    let before = c.steps.ring in
    let after = c.settle.new.self in
    let whole : after.broken ≡ false = search rules in
    let stays = stays_step g.P.Plant.exact (world before (g.P.Plant.fibres c.steps.plant)) (world after (g.P.Plant.fibres c.settle.new.plant))
    128 c.settle.result (g.P.Plant.faults c.steps.plant) (g.P.Plant.faults c.settle.new.plant) c.settle.ensures.step whole in
    record {
      prepared =
          subst (λ (s : Settings). IsPrepared s.rate (length after.ids) (g.P.Plant.fibres c.settle.new.plant)) (sym stays.settings)
          (subst (λ ids. IsPrepared before.settings.rate (length ids) (g.P.Plant.fibres c.settle.new.plant)) (sym stays.ids)
          (c.settle.ensures.step.prepared whole));
      whole = whole;
      room = search rules;
    }
