-- Rounds one after the other, over any fibres.
use Rattle.std.specs.Prelude.{ℕ, List}
use Rattle.sdh_plant.specs.Fibres.{Arrival, Fibres}
use Rattle.sdh_node.specs.Stations.{adm}
use Rattle.sdh_rounds.specs.Runs as runs
use Rattle.sdh_node.specs.Rings.Rounds.{World}

-- ---- one round

-- a round, whatever arrives in it
abbrev pub IsRound : World → World → Type 0
IsRound = runs.IsRound adm

-- the fibres after a round that a fault broke off
abbrev pub IsBrokenOff : World → Fibres → Type 0
IsBrokenOff = runs.IsBrokenOff adm

-- ---- a run

-- the world after k more rounds, where arrivals are known
abbrev pub run : ℕ → World → World
run = runs.run adm

-- the world after a round with each of these lists of arrivals
abbrev pub run_with : List (List Arrival) → World → World
run_with = runs.run_with adm

-- these may arrive in the next rounds: a list of arrivals for each round
abbrev pub ArriveIn : List (List Arrival) → World → Type 0
ArriveIn = runs.ArriveIn adm

-- the course of a run with these arrivals: the world after each number of rounds
abbrev pub course_with : List (List Arrival) → World → ℕ → World
course_with = runs.course_with adm

-- the course where arrivals are known
abbrev pub course : World → ℕ → World
course = runs.course adm
