use Rattle.std.specs.Prelude.{◌≤◌}
use Rattle.std.proofs.Common.{◌≡◌, false, length}
use Rattle.sdh_plant.specs.Fibres.{IsPrepared}
use Rattle.sdh_bench_ring.proofs.strangers.episode.Given as goal

abbrev pub invariant-events : goal.invariant-events
invariant-events g l = record {
  prepared : IsPrepared l.ring.settings.rate (length l.ring.ids) (g.P.Plant.fibres l.plant);
  whole : l.ring.broken ≡ false;
  moment : l.ring.moment ≡ l.moment;
  few : l.rounds ≤ 10000;
}
