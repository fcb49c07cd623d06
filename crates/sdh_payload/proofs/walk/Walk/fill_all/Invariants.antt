use Rattle.std.proofs.Common.{◌≡◌, ◌+◌, ◌-◌, ◌≤◌, length, take}
use Rattle.sdh_payload.specs.Walk.{containers_from}
use Rattle.sdh_payload.proofs.walk.Walk.fill_all.Given as goal

abbrev pub invariant-loop-done : goal.invariant-loop-done
invariant-loop-done l = record {
  within : l.done ≤ length l.out;
  len : length l.out ≡ length l.fn.out;
  port : l.self.port ≡ l.initial.self.port;
  at : l.self.at ≡ l.initial.self.at + l.done;
  put : take l.done l.out ≡ containers_from l.initial.self.port l.initial.self.at l.done;
}

abbrev pub decreases-loop-done : goal.decreases-loop-done
decreases-loop-done l = length l.out - l.done
