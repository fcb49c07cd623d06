use Rattle.std.proofs.Common.{◌≡◌, ◌+◌, length}
use Rattle.sdh_plant.specs.Fibres.{IsPrepared}
use Rattle.test_rings.proofs.rings.run.Given as goal

abbrev pub invariant-turns : goal.invariant-turns
invariant-turns g l =
    let means = g.P.Plant.fibres in
    record {
      held : l.ring ≡ record l.fn.ring { nodes = l.ring.nodes; rounds = l.fn.ring.rounds + l._turn };
      prepared : IsPrepared l.fn.ring.settings.rate (length l.fn.ring.ids) (means l.plant);
    }
