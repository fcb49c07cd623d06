-- What an observer keeps of the rounds of a settle step. The observer looks at a ring of add-drop multiplexers after
-- each round.
use Rattle.std.specs.Prelude.{ℕ, Bool}
use Rattle.sdh_node.specs.Stations.{adm}
use Rattle.sdh_rounds.specs.Observed as observed
use Rattle.sdh_node.specs.Rings.Held.{HeldRing}
use Rattle.sdh_node.specs.Rings.Rounds.{World}

-- `RanOne at k ring`: `at` is a course, in which `at k` is the world after k rounds. After the first k rounds one more
-- ran, and it left `ring`.
abbrev pub RanOne : (ℕ → World) → ℕ → HeldRing → Type 0
RanOne = observed.RanOne adm

-- `Hears kept w limit left`: a settle step led from the world `w` to the world `left`, and ended with a quiet window.
-- `kept` holds of the course of its rounds and of their number.
abbrev pub Hears : ((ℕ → World) → ℕ → Type 0) → World → ℕ → World → Type 0
Hears = observed.Hears adm

-- `RanSome kept w limit mid`: rounds of a settle step led from the world `w` to the world `mid`, and none before the
-- last of them ended a quiet window. `kept` holds of their course and their number.
abbrev pub RanSome : ((ℕ → World) → ℕ → Type 0) → World → ℕ → World → Type 0
RanSome = observed.RanSome adm

-- `HearsSome kept w limit left`, for a step that ended with an error: `RanSome` holds up to some world. After it no
-- other round ran, or a fault broke the next one off.
abbrev pub HearsSome : ((ℕ → World) → ℕ → Type 0) → World → ℕ → World → Type 0
HearsSome = observed.HearsSome adm

-- `IsStopped exact kept w limit left before after`: a recorder stopped the step in the world `left`, and `RanSome`
-- holds up to there. `before` and `after` are the plant's count of failed calls before and after the step. An exact
-- count rises by one with each failed call and stays as it is with any other. If this count is exact, it is the same
-- after the step as before.
abbrev pub IsStopped : Bool → ((ℕ → World) → ℕ → Type 0) → World → ℕ → World → ℕ → ℕ → Type 0
IsStopped = observed.IsStopped adm
