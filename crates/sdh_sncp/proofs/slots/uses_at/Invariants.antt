use Rattle.std.proofs.Common.{◌≡◌, ◌+◌}
use Rattle.sdh_basics.specs.Cells.{cells}
use Rattle.sdh_sncp.specs.Slots.{use_of}
use Rattle.sdh_sncp.proofs.slots.uses_at.Given as goal

abbrev pub invariant-loop-k : goal.invariant-loop-k
invariant-loop-k l = l.uses.items ≡ cells (λ k. use_of l.circuits.circuits l.at.0 (k + 1)) l.k
