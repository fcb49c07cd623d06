use Rattle.std.proofs.Common.{◌≡◌, ◌+◌, ◌≤◌}
use Rattle.sdh_payload.specs.Clock.{waiting}
use Rattle.test_parts.proofs.watches.give.Given as goal

abbrev pub invariant-loop-i : goal.invariant-loop-i
invariant-loop-i l = record {
  chunks : l.watch.chunks ≤ l.fn.watch.chunks + l.i;
  rounds : l.feed.clock.rounds ≡ l.fn.feed.clock.rounds + l.i;
  none : waiting l.feed.clock ≡ 0;
}
