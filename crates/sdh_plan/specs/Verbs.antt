-- The first words of steps, and what is to follow each. All this is this project's own.
use Rattle.std.specs.Prelude.{ℕ, ◌*◌, if◌then◌else◌, List, [], ◌∷◌, codes, Option, Some, None}
use Rattle.std.specs.Str.{bytes_eq}
use Rattle.sdh_circuits.specs.Provisioned.{Provisioned}

-- what a step does
pub data Verb : Type 0 where
  -- a fibre is cut, mended or degraded
  Cut : Verb
  Mend : Verb
  Degrade : Verb
  -- a side gets a forced switch or a manual switch, or its command is cleared
  Forced : Verb
  Manual : Verb
  Clear : Verb
  -- the present moment is set
  Moment : Verb
  -- rounds run until a quiet window ends
  Settle : Verb
  -- the controller of a node misses the next rounds
  Hold : Verb
  -- the clock of a port slips against the ring's
  Slip : Verb

-- what a step does, by its first word
abbrev pub verb_of : List ℕ → Option Verb
verb_of word =
    if bytes_eq word (codes "cut") then Some Cut
    else if bytes_eq word (codes "mend") then Some Mend
    else if bytes_eq word (codes "degrade") then Some Degrade
    else if bytes_eq word (codes "forced") then Some Forced
    else if bytes_eq word (codes "manual") then Some Manual
    else if bytes_eq word (codes "clear") then Some Clear
    else if bytes_eq word (codes "moment") then Some Moment
    else if bytes_eq word (codes "settle") then Some Settle
    else if bytes_eq word (codes "hold") then Some Hold
    else if bytes_eq word (codes "slip") then Some Slip
    else None

-- what a word after the first is to be: the identifier of a node in the ring, a side, a number in a range, the name of
-- one of these circuits, an end of a circuit, a turn of a clock
pub data Part : Type 0 where
  node : Part
  side : Part
  number : ℕ → ℕ → Part
  circuit : List Provisioned → Part
  end : Part
  turn : Part

-- the words that follow the first one, at STM-n with these circuits
abbrev pub parts_of : ℕ → List Provisioned → Verb → List Part
parts_of n circuits Cut = node ∷ side ∷ []
parts_of n circuits Mend = node ∷ side ∷ []
parts_of n circuits Degrade = node ∷ side ∷ number 1 (3 * n) ∷ []
parts_of n circuits Forced = node ∷ side ∷ []
parts_of n circuits Manual = node ∷ side ∷ []
parts_of n circuits Clear = node ∷ side ∷ []
parts_of n circuits Moment = number 0 1000000000 ∷ []
parts_of n circuits Settle = []
parts_of n circuits Hold = node ∷ number 1 100 ∷ []
parts_of n circuits Slip = circuit circuits ∷ end ∷ turn ∷ number 1 16 ∷ []
