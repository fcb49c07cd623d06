-- What a fault of the plant leaves of a ring.
use Rattle.std.specs.Prelude.{ℕ, ◌≡◌, ◌+◌, ◌/◌, ◌<◌, nat_lt, true, if◌then◌else◌, List, length}
use Rattle.sdh_plant.specs.Fibres.{Arrival, Fibres}
use Rattle.sdh_rounds.specs.Stations.{Station}
use Rattle.sdh_rounds.specs.Held.{World}
use Rattle.sdh_rounds.specs.Runs.{ArriveIn, run_with, course_with, IsBrokenOff}
use Rattle.sdh_rounds.specs.Quiet.{NeverSettles}
use Rattle.sdh_rounds.specs.Calls.{told_some, first_after}

-- The number of nodes that ran their round, in a round that was broken off. It is none where a receive failed, as not
-- all arrivals were taken then. Otherwise it is that of the nodes whose frames were sent on both sides, and the one
-- whose send failed.
abbrev pub had_round : {N : Type 0} {s : Station N} {w : World N} {f : Fibres} → IsBrokenOff s w f → ℕ
had_round off = if nat_lt off.given (length off.arrivals) then 0 else off.out / 2 + 1

-- A round was broken off, and the ring is broken. Some nodes, by position from the first on, received what arrived. Of
-- all nodes the first `had_round` ran their round.
pub record BreaksRound {N : Type 0} (s : Station N) (w left : World N) : Type 0 where
  pub off : IsBrokenOff s w left.fibres
  pub ring : left.ring ≡ record w.ring { nodes = left.ring.nodes; broken = true }
  pub told : List Arrival
  pub nodes : left.ring.nodes ≡ first_after s w.ring.moment (had_round off) (told_some s told w.ring.nodes)

-- a settle step in which a fault broke a round off, after some whole rounds that ended no window
pub record BreaksStep {N : Type 0} (s : Station N) (w : World N) (limit : ℕ) (left : World N) : Type 0 where
  pub rounds : List (List Arrival)
  pub arrive : ArriveIn s rounds w
  pub within : length rounds < limit
  pub never : NeverSettles s (course_with s rounds w) (length rounds)
  pub last : BreaksRound s (run_with s rounds w) left
