use Rattle.std.proofs.Common.{◌≡◌, take}
use Rattle.sdh_terminal.specs.Tributaries.{tributaries_from}
use Rattle.sdh_terminal.proofs.tributary.tributaries_at.Given as goal

abbrev pub invariant-loop-i : goal.invariant-loop-i
invariant-loop-i l = l.ports.items ≡ tributaries_from l.at 0 (take l.i l.circuits.circuits)
