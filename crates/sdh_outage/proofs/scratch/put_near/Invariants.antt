use Rattle.std.proofs.Common.{◌≡◌, ◌+◌, ◌*◌, ◌≤◌, vec_len, vec_capacity}
use Rattle.sdh_outage.specs.Kept.{IsReach}
use Rattle.sdh_outage.proofs.scratch.put_near.Given as goal

abbrev pub invariant-loop : goal.invariant-loop
invariant-loop l = record {
  reach : IsReach l.feed l.fn.feed.clock.rounds (l.fn.feed.clock.rounds + l.counter) l.bytes.items;
  port : l.feed.port ≡ l.fn.feed.port;
  len : vec_len l.bytes ≡ 2349 * l.counter;
  room : vec_capacity l.fn.bytes ≤ vec_capacity l.bytes;
}
