use Rattle.std.proofs.Common.{[], ap, ◌∙◌}
use Rattle.sdh_payload.specs.Feed.{Fed}
use Rattle.sdh_outage.proofs.Windows.{feed_next, reach_none, reach_passed}
use Rattle.sdh_outage.proofs.scratch.feed_before.Goals as goal

pub loop-init : goal.loop-init
loop-init c = record {
  at = reach_none c.args.port.now c.new-feed.result c.new-feed.ensures;
  port = ap (λ (f : Fed). f.port) c.new-feed.ensures;
}

pub loop-preserved : goal.loop-preserved
loop-preserved c =
    let feed = c.loop.feed in
    let made = c.loop.counter in
    let at = c.loop.invariant.at in
    let next = feed_next feed c.pass.new.self made c.pass.ensures at.still at.rounds_are at.sent_is in
    record {
      at = reach_passed feed c.pass.new.self made [] c.pass.ensures at;
      port = next.3 ∙ c.loop.invariant.port;
    }
