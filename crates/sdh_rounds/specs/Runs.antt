-- Rounds one after the other, over any fibres.
use Rattle.std.specs.Prelude.{◌≡◌, ℕ, zero, suc, ◌*◌, ◌<◌, ◌≤◌, List, [], ◌∷◌, length, take}
use Rattle.sdh_plant.specs.Fibres.{Arrival, Fibres}
use Rattle.sdh_plant.specs.Arrivals.{Knows}
use Rattle.sdh_rounds.specs.Stations.{Station}
use Rattle.sdh_rounds.specs.Held.{World}
use Rattle.sdh_rounds.specs.Rounds.{receivers, arrivals_of, after_given, sent_some, frames_with, round_with, round}

-- ---- one round

-- these may arrive in the next round: two for each node that receives, and those that the fibres give where arrivals
-- are known
pub record Arrive {N : Type 0} (w : World N) (arrivals : List Arrival) : Type 0 where
  pub count : length arrivals ≡ 2 * receivers w
  pub known : Knows w.fibres → arrivals ≡ arrivals_of w

-- a round, whatever arrives in it
pub record IsRound {N : Type 0} (s : Station N) (w after : World N) : Type 0 where
  pub arrivals : List Arrival
  pub arrive : Arrive w arrivals
  pub after_is : after ≡ round_with s arrivals w

-- The fibres after a round that a fault broke off. Its first `given` arrivals were taken, and its first `out` frames
-- were sent: not all of them, and none before all arrivals were taken.
pub record IsBrokenOff {N : Type 0} (s : Station N) (w : World N) (after : Fibres) : Type 0 where
  pub arrivals : List Arrival
  pub arrive : Arrive w arrivals
  pub given : ℕ
  pub most : given ≤ length arrivals
  pub out : ℕ
  pub not_all : out < 2 * length w.ring.ids
  pub order : 0 < out → given ≡ length arrivals
  pub after_is : after ≡ sent_some (take out (frames_with s arrivals w)) (after_given given w.fibres)

-- ---- a run

-- the world after k more rounds, where arrivals are known
unfoldable pub run : {N : Type 0} → Station N → ℕ → World N → World N
run s zero w = w
run s (suc k) w = round s (run s k w)

-- the arrivals of the next k rounds, where they are known
unfoldable pub arrivals_in : {N : Type 0} → Station N → ℕ → World N → List (List Arrival)
arrivals_in s zero w = []
arrivals_in s (suc k) w = arrivals_of w ∷ arrivals_in s k (round s w)

-- the world after a round with each of these lists of arrivals
abbrev pub run_with : {N : Type 0} → Station N → List (List Arrival) → World N → World N
run_with s [] w = w
run_with s (arrivals ∷ later) w = run_with s later (round_with s arrivals w)

-- these may arrive in the next rounds: a list of arrivals for each round
abbrev pub ArriveIn : {N : Type 0} → Station N → List (List Arrival) → World N → Type 0
ArriveIn s [] w = Unit {0}
ArriveIn s (arrivals ∷ later) w = Arrive w arrivals × ArriveIn s later (round_with s arrivals w)

-- the course of a run with these arrivals: the world after each number of rounds
abbrev pub course_with : {N : Type 0} → Station N → List (List Arrival) → World N → ℕ → World N
course_with s rounds w j = run_with s (take j rounds) w

-- the course where arrivals are known
abbrev pub course : {N : Type 0} → Station N → World N → ℕ → World N
course s w j = run s j w
