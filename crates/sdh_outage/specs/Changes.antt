-- The rounds of a settle step in which the kind of what a port delivers changes. The number of changes that are kept is
-- this project's own.
use Rattle.std.specs.Prelude.{ℕ, ◌+◌, Bool, true, false, not, if◌then◌else◌, List, [], ◌∷◌, ◌++◌, take, length, Option, Some, None}
use Rattle.sdh_outage.specs.declared.kind.Kind.{Kind}
use Rattle.sdh_outage.specs.declared.kind.Kind.TheVariants as kind
use Rattle.sdh_outage.specs.declared.change.Change.{Change}

-- two rounds are of one kind, whatever port the foreign bytes came from
abbrev pub same_kind : Kind → Kind → Bool
same_kind kind.Ais kind.Ais = true
same_kind kind.Ones kind.Ones = true
same_kind kind.InOrder kind.InOrder = true
same_kind kind.Jump kind.Jump = true
same_kind kind.Torn kind.Torn = true
same_kind (kind.Foreign port) (kind.Foreign other) = true
same_kind kind.Strange kind.Strange = true
same_kind one other = false

-- a round of this kind is a change: it is the first, or of another kind than the round before
abbrev pub is_change : Option Kind → Kind → Bool
is_change None now = true
is_change (Some before) now = not (same_kind before now)

-- the kind of the last of these rounds, which stand the latest first; None where there is none
abbrev pub last_kind : List Kind → Option Kind
last_kind [] = None
last_kind (kind ∷ earlier) = Some kind

-- the changes in the rounds of these kinds from round `first` on, the latest round first; of the changes the first
-- comes first
abbrev pub kind_changes : ℕ → List Kind → List Change
kind_changes first [] = []
kind_changes first (kind ∷ earlier) =
    kind_changes first earlier ++
    (if is_change (last_kind earlier) kind then record { round = first + length earlier; kind = kind } ∷ [] else [])

-- ---- what a trace holds

pub record Traced : Type 0 where
  -- the first 64 changes
  pub changes : List Change
  -- how many there were
  pub count : ℕ
  -- what the last round was
  pub last : Option Kind

-- what a trace holds after rounds of these kinds, the latest first, from round `first` on
abbrev pub traced : ℕ → List Kind → Traced
traced first past = record { changes = take 64 (kind_changes first past); count = length (kind_changes first past); last = last_kind past }
