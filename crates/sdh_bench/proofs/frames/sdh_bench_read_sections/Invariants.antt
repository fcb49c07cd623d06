use Rattle.std.proofs.Common.{◌≡◌}
use Rattle.sdh_ringmap.specs.Rates.{n_of}
use Rattle.sdh_bench.proofs.frames.sdh_bench_read_sections.Given as goal

abbrev pub invariant-loop : goal.invariant-loop
invariant-loop l = (l.frame.rate ≡ l.section.rate) × (n_of l.frame.rate ≡ l.n)
