use Rattle.std.proofs.Common.{◌≡◌}
use Rattle.sdh_payload.specs.Clock.{waiting}
use Rattle.sdh_bench.proofs.feeds.sdh_bench_chunks.Given as goal

abbrev pub invariant-loop : goal.invariant-loop
invariant-loop l = record {
  rounds : l.feed.clock.rounds ≡ l.counter;
  none : waiting l.feed.clock ≡ 0;
}
