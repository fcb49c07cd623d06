use Rattle.std.proofs.Common.{◌≡◌, true, ◌≤◌, ◌+◌, length}
use Rattle.sdh_plant.specs.Fibres.{IsPrepared}
use Rattle.sdh_rounds.specs.Held.{world}
use Rattle.sdh_rounds.proofs.Observing.{Observes}
use Rattle.sdh_rounds.proofs.steps.settle_recording.Given as goal

abbrev pub invariant-rounds : goal.invariant-rounds
invariant-rounds g l =
    let means = g.P.Plant.fibres in
    let from = g.R.RunsRounds.held l.fn.ring in
    let now = g.R.RunsRounds.held l.ring in
    record {
      observes : Observes g.R.Node.Station.kind (λ at k. g.O.Recorder.Records l.fn.recorder l.fn.log at k l.recorder l.log)
          (world from (means l.fn.plant)) (world now (means l.plant)) l._turn l.calm;
      held : now ≡ record from { nodes = now.nodes; rounds = from.rounds + l._turn };
      prepared : IsPrepared from.settings.rate (length from.ids) (means l.plant);
      small : l.calm ≤ l._turn;
      later : g.P.Plant.faults l.fn.plant ≤ g.P.Plant.faults l.plant;
      none : g.P.Plant.exact ≡ true → g.P.Plant.faults l.plant ≡ g.P.Plant.faults l.fn.plant;
    }
