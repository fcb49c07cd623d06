use Rattle.std.proofs.Common.{◌≡◌}
use Rattle.sdh_ringmap.specs.Rates.{n_of}
use Rattle.sdh_bench.proofs.frames.sdh_bench_write_sections.Given as goal

abbrev pub invariant-loop-round : goal.invariant-loop-round
invariant-loop-round l = (l.frame.rate ≡ l.section.rate) × (n_of l.frame.rate ≡ l.n)
