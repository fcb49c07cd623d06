use Rattle.std.proofs.Common.{◌≡◌, false, length}
use Rattle.sdh_plant.specs.Fibres.{IsPrepared}
use Rattle.test_rings.proofs.scripts.counted.Given as goal

abbrev pub invariant-turns : goal.invariant-turns
invariant-turns g l = record {
  prepared : IsPrepared l.ring.settings.rate (length l.ring.ids) (g.P.Plant.fibres l.plant);
  whole : l.ring.broken ≡ false;
}
