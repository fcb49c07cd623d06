use Rattle.std.proofs.Common.{◌≡◌}
use Rattle.sdh_ringmap.specs.Rates.{n_of}
use Rattle.sdh_bench.proofs.frames.sdh_bench_copy_payloads.Given as goal

abbrev pub invariant-loop : goal.invariant-loop
invariant-loop l = (l.to.rate ≡ l.from-inside.rate) × (n_of l.to.rate ≡ l.n)
