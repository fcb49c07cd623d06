use Rattle.std.proofs.Common.{◌≡◌, ◌+◌, ◌-◌, ◌≤◌, length, take}
use Rattle.sdh_payload.specs.Walk.{containers_from}
use Rattle.sdh_payload.proofs.walk.Walk.is_next.Given as goal

abbrev pub invariant-loop-done : goal.invariant-loop-done
invariant-loop-done l = record {
  within : l.done ≤ length l.bytes;
  port : l.self.port ≡ l.initial.self.port;
  at : l.self.at ≡ l.initial.self.at + l.done;
  same : take l.done l.bytes ≡ containers_from l.initial.self.port l.initial.self.at l.done;
}

abbrev pub decreases-loop-done : goal.decreases-loop-done
decreases-loop-done l = length l.bytes - l.done
