use Rattle.std.proofs.Common.{◌≡◌, drop}
use Rattle.sdh_sncp.specs.Slots.{use_from}
use Rattle.sdh_sncp.proofs.slots.use_of.Given as goal

-- none before has the slot
abbrev pub invariant-loop-i : goal.invariant-loop-i
invariant-loop-i l = use_from l.at.0 l.slot 0 l.circuits.circuits ≡ use_from l.at.0 l.slot l.i (drop l.i l.circuits.circuits)
