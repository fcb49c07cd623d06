use Rattle.std.proofs.Common.{take}
use Rattle.sdh_signal.specs.SignalRing.{NoneHeld}
use Rattle.sdh_signal.proofs.nodes.is_free.Given as goal

abbrev pub invariant-loop-i : goal.invariant-loop-i
invariant-loop-i l = NoneHeld (take l.i l.held)
