use Rattle.std.proofs.Common.{◌+◌, ap, ◌∙◌}
use Rattle.sdh_payload.specs.Clock.{waiting}
use Rattle.sdh_payload.specs.Feed.{Fed}
use Rattle.sdh_payload.proofs.Clocking.{plain_tick, rounds_more}
use Rattle.sdh_bench.proofs.feeds.sdh_bench_chunks.Goals as goal

pub loop-preserved : goal.loop-preserved
loop-preserved c =
    let inv = c.loop.invariant in
    let next = c.next.ensures.next in
    let clock = c.loop.feed.clock in
    record {
      rounds = ap (λ (f : Fed). f.clock.rounds) next ∙ rounds_more clock ∙ ap (λ r. r + 1) inv.rounds;
      none = ap (λ (f : Fed). waiting f.clock) next ∙ (plain_tick clock inv.none).0;
    }
