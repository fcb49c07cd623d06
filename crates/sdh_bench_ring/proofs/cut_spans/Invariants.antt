use Rattle.std.proofs.Common.{length}
use Rattle.sdh_plant.specs.Fibres.{IsPrepared}
use Rattle.sdh_bench_ring.proofs.cut_spans.Given as goal

abbrev pub invariant-cuts : goal.invariant-cuts
invariant-cuts g l = IsPrepared l.fn.ring.settings.rate (length l.fn.ring.ids) (g.P.Plant.fibres l.plant)
