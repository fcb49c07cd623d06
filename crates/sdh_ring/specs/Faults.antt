-- What a fault of the plant leaves of a ring: how far the clocks of its ports have come.
use Rattle.std.specs.Prelude.{ℕ, ◌≡◌, ◌+◌, nat_lt, true, if◌then◌else◌, length}
use Rattle.sdh_circuits.specs.declared.PortId.{PortId}
use Rattle.sdh_payload.specs.Clock.{ticks}
use Rattle.sdh_rounds.specs.Faults.{had_round}
use Rattle.sdh_node.specs.Rings.Held.{HeldRing, place_of_port}
use Rattle.sdh_node.specs.Rings.Clocks.{HasPortIn, clock_at}
use Rattle.sdh_node.specs.Rings.Rounds.{World}
use Rattle.sdh_node.specs.Rings.Runs.{IsBrokenOff}
use Rattle.sdh_node.specs.Rings.Quiet.{BreaksOff}

-- each port is still there, and its clock has gone on by t rounds, at the first k positions by one more
abbrev pub ClocksWentOn : ℕ → ℕ → HeldRing → HeldRing → Type 0
ClocksWentOn t k old new =
    (port : PortId) → HasPortIn old port → HasPortIn new port
    × (clock_at new port ≡ ticks (if nat_lt (place_of_port old port) k then t + 1 else t) (clock_at old port))

-- A round was broken off. The ring is broken; the clocks of the ports have gone on by one round at the nodes that had
-- this round, and at no others.
pub record BreaksRound (w left : World) : Type 0 where
  pub off : IsBrokenOff w left.fibres
  pub ring : left.ring ≡ record w.ring { nodes = left.ring.nodes; broken = true }
  pub clocks : ClocksWentOn 0 (had_round off) w.ring left.ring

-- a settle step whose last round was broken off
pub record BreaksStep (w : World) (limit : ℕ) (left : World) : Type 0 where
  pub step : BreaksOff w limit left.fibres
  pub ring : left.ring ≡ record w.ring { nodes = left.ring.nodes; rounds = w.ring.rounds + length step.rounds; broken = true }
  pub clocks : ClocksWentOn (length step.rounds) (had_round step.off) w.ring left.ring
