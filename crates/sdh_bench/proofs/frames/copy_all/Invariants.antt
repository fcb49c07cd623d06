use Rattle.std.proofs.Common.{◌≡◌}
use Rattle.sdh_ringmap.specs.Rates.{n_of}
use Rattle.sdh_bench.proofs.frames.copy_all.Given as goal

abbrev pub invariant-loop-au : goal.invariant-loop-au
invariant-loop-au l = (l.to.rate ≡ l.from.rate) × (l.n ≡ n_of l.from.rate)
