-- How a program may end: with a status that all programs share, or with an ending of its own.
use Rattle.std.specs.Prelude.{◌≡◌, ℕ, List, Option, Some, None}
use Rattle.sdh_status.specs.declared.Status.{Status}
use Rattle.sdh_status.specs.declared.Status.TheVariants as status
use Rattle.sdh_report.specs.Statuses.{last_line}
use Rattle.sdh_status.specs.Numbers.{number_of}

-- the endings of a program
pub record Endings (E : Type 0) : Type 0 where
  -- the ending that stands for a shared status
  pub of : Status → E
  -- the shared status for which an ending stands; none for an ending of the program's own
  pub shared : E → Option Status
  pub shared_of : (s : Status) → shared (of s) ≡ Some s
  -- the number of an ending
  pub number : E → ℕ
  -- the last line of an ending
  pub line : E → List ℕ

-- the shared statuses alone
abbrev pub statuses : Endings Status
statuses = record { of = λ s. s; shared = λ s. Some s; shared_of = λ s i. Some s; number = number_of; line = last_line }

-- An ending that stands for this shared status may refuse a plan before it runs. Of the shared statuses only
-- `NoSuchPort` may. An ending of the program's own, which stands for none, may too.
abbrev pub refuses_plan : Option Status → Type 0
refuses_plan None = Unit {0}
refuses_plan (Some status.NoSuchPort) = Unit {0}
refuses_plan (Some how) = ⊥

-- a plan may be refused with this ending before it runs
abbrev pub RefusesPlan : {E : Type 0} → Endings E → E → Type 0
RefusesPlan endings how = refuses_plan (endings.shared how)
