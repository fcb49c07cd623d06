-- Quiet windows of a ring of add-drop multiplexers, and where a settle step of it ends.
use Rattle.std.specs.Prelude.{ℕ, Bool, Option, List}
use Rattle.sdh_plant.specs.Fibres.{Fibres}
use Rattle.sdh_node.specs.Node.{Node}
use Rattle.sdh_node.specs.Stations.{adm}
use Rattle.sdh_rounds.specs.Quiet as quiet
use Rattle.sdh_node.specs.Rings.Rounds.{World}

-- the last round was calm at each node
abbrev pub is_calm : List Node → Bool
is_calm = quiet.is_calm adm

-- the k-th round of a course, counted from 1, is calm
abbrev pub IsCalm : (ℕ → World) → ℕ → Type 0
IsCalm = quiet.IsCalm adm

-- a quiet window ends with the k-th round
abbrev pub EndsWindow : (ℕ → World) → ℕ → Type 0
EndsWindow = quiet.EndsWindow adm

-- the step ends with its k-th round, which is the first to end a window
abbrev pub SettlesAt : (ℕ → World) → ℕ → ℕ → Type 0
SettlesAt = quiet.SettlesAt adm

-- no window ends in this number of rounds
abbrev pub NeverSettles : (ℕ → World) → ℕ → Type 0
NeverSettles = quiet.NeverSettles adm

-- the number of rounds of a step from this world up to the end of the first window, if one ends within a limit, where
-- arrivals are known
abbrev pub settles_in : World → ℕ → Option ℕ
settles_in = quiet.settles_in adm

-- ---- what a step leaves, whatever arrives

-- a settle step ended with a window
abbrev pub Settles : World → ℕ → World → Type 0
Settles = quiet.Settles adm

-- a settle step ran all the rounds of its limit, and none ended a window
abbrev pub Unsettles : World → ℕ → World → Type 0
Unsettles = quiet.Unsettles adm

-- a fault broke a round of a settle step off, before any round ended a window
abbrev pub BreaksOff : World → ℕ → Fibres → Type 0
BreaksOff = quiet.BreaksOff adm
