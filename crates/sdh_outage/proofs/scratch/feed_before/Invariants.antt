use Rattle.std.proofs.Common.{◌≡◌, []}
use Rattle.sdh_outage.specs.Kept.{IsReach}
use Rattle.sdh_outage.proofs.scratch.feed_before.Given as goal

abbrev pub invariant-loop : goal.invariant-loop
invariant-loop l = record {
  at : IsReach l.feed l.counter l.counter [];
  port : l.feed.port ≡ l.port;
}
