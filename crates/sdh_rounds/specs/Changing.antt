-- What is changed in a ring of any kind between its rounds.
use Rattle.std.specs.Prelude.{ℕ}
use Rattle.sdh_ringmap.specs.declared.Side.{Side}
use Rattle.sdh_request.specs.declared.Command.{Command}
use Rattle.sdh_payload.specs.declared.clock.Turn.{Turn}
use Rattle.sdh_circuits.specs.declared.PortId.{PortId}
use Rattle.sdh_rounds.specs.Held.{HeldRing}

-- what each change does to a ring; nodes are named by their positions
pub record Changing (N : Type 0) : Type 0 where
  -- one side of a node gets a command
  pub commanded : ℕ → Side → Command → HeldRing N → HeldRing N
  -- the controller of a node is held for a number of rounds
  pub held_for : ℕ → ℕ → HeldRing N → HeldRing N
  -- the clock of a port gets a number of pending slips
  pub slipped : PortId → Turn → ℕ → HeldRing N → HeldRing N
  -- the number of slips that wait at a port
  pub waiting_at : HeldRing N → PortId → ℕ

-- the ring at a moment
abbrev pub at_moment : {N : Type 0} → ℕ → HeldRing N → HeldRing N
at_moment now r = record r { moment = now }
