-- What happens in a ring between rounds, and how many rounds run after it.
use Rattle.std.specs.Prelude.{ℕ, List, [], ◌∷◌, ◌+◌}
use Rattle.sdh_ringmap.specs.declared.Side.{Side}
use Rattle.sdh_request.specs.declared.Command.{Command}
use Rattle.sdh_ringmap.specs.declared.terms.Condition.{Condition}
use Rattle.sdh_payload.specs.declared.clock.Turn.{Turn}
use Rattle.sdh_circuits.specs.declared.PortId.{PortId}

-- A change of a ring: the fibre that leaves a position on a side gets a condition; a side of a node gets a command; the
-- controller of a node is held for a number of rounds; a port gets pending slips; the moment is set.
pub data Change : Type 0 where
  Fibre : ℕ → Side → Condition → Change
  Order : ℕ → Side → Command → Change
  Hold : ℕ → ℕ → Change
  Slip : PortId → Turn → ℕ → Change
  Now : ℕ → Change

-- a stretch of a run: changes, and the number of rounds that run after them
pub record Stretch : Type 0 where
  pub changes : List Change
  pub rounds : ℕ

-- the number of rounds of these stretches together
abbrev pub rounds_in : List Stretch → ℕ
rounds_in [] = 0
rounds_in (s ∷ ss) = s.rounds + rounds_in ss
