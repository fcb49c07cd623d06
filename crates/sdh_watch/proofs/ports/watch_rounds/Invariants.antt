use Rattle.std.proofs.Common.{◌≡◌, ◌+◌, ◌≤◌, true, length}
use Rattle.sdh_plant.specs.Fibres.{IsPrepared}
use Rattle.sdh_node.specs.Rings.Rounds.{world}
use Rattle.sdh_watch.specs.Ports.{Shown, AreFew}
use Rattle.sdh_watch.proofs.ports.watch_rounds.Given as goal

abbrev pub invariant-rounds : goal.invariant-rounds
invariant-rounds g l =
    let means = g.P.Plant.fibres in
    record {
      shown : Shown l._turn (world l.fn.ring (means l.fn.plant)) (world l.ring (means l.plant)) l.watches.items;
      few : AreFew l._turn l.watches.items;
      held : l.ring ≡ record l.fn.ring { nodes = l.ring.nodes; rounds = l.fn.ring.rounds + l._turn };
      prepared : IsPrepared l.fn.ring.settings.rate (length l.fn.ring.ids) (means l.plant);
      later : g.P.Plant.faults l.fn.plant ≤ g.P.Plant.faults l.plant;
      none : g.P.Plant.exact ≡ true → g.P.Plant.faults l.plant ≡ g.P.Plant.faults l.fn.plant;
    }
