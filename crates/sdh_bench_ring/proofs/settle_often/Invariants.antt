use Rattle.std.proofs.Common.{◌≡◌, ◌≤◌, false, length}
use Rattle.sdh_plant.specs.Fibres.{IsPrepared}
use Rattle.sdh_bench_ring.proofs.settle_often.Given as goal

abbrev pub invariant-steps : goal.invariant-steps
invariant-steps g l = record {
  prepared : IsPrepared l.ring.settings.rate (length l.ring.ids) (g.P.Plant.fibres l.plant);
  whole : l.ring.broken ≡ false;
  room : l.ring.rounds ≤ 2147483648;
}
