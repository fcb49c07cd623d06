-- Calls of a source and a plant that failed, and how they are reported.
use Rattle.std.specs.Prelude.{◌≡◌, ◌+◌, ℕ, Bool, List, Option, Some, None}
use Rattle.sdh_basics.specs.Causes.{Rose, IsCounted}
use Rattle.sdh_outside.specs.Reading.{TakesCount, TakesFewer}
use Rattle.sdh_status.specs.declared.Status.{Status}
use Rattle.sdh_status.specs.declared.Status.TheVariants as status
use Rattle.sdh_shell.specs.Endings.{Endings}

-- the count of failed calls of a source or a plant, before and after a call of the program
pub record Counts : Type 0 where
  pub before : ℕ
  pub after : ℕ

-- a call failed now, or the count stands at 2 ^ 64 - 1 and cannot rise
abbrev pub HaveFailed : Counts → Type 0
HaveFailed counts = Rose counts.before counts.after

-- a read fault has its cause in a read that failed, and a plant fault in a call of the plant that failed
abbrev pub HasCause : Counts → Counts → Status → Type 0
HasCause reads calls status.ReadFault = HaveFailed reads
HasCause reads calls status.PlantFault = HaveFailed calls
HasCause reads calls how = Unit {0}

-- the status, if there is one, has its cause if it is a fault
abbrev pub cause_of : Counts → Counts → Option Status → Type 0
cause_of reads calls None = Unit {0}
cause_of reads calls (Some how) = HasCause reads calls how

-- an ending that stands for a shared status has its cause; one of the program's own needs none
abbrev pub EndsWithCause : {E : Type 0} → Endings E → Counts → Counts → E → Type 0
EndsWithCause endings reads calls how = cause_of reads calls (endings.shared how)

-- How many bytes were taken from a source of which at most `most` are accepted. Where too many were to be reported, one
-- more was taken, and none after it. Otherwise no more than `most` were.
pub record TakesAtMost (most : ℕ) (left now : Option (List ℕ)) (TooLong : Type 0) : Type 0 where
  pub one_more : TooLong → TakesCount left now (most + 1)
  pub within : (TooLong → ⊥) → TakesFewer left now (most + 1)

-- how many bytes were taken, where there is a most
abbrev pub takes_within : Option ℕ → Option (List ℕ) → Option (List ℕ) → Type 0 → Type 0
takes_within None left now TooLong = Unit {0}
takes_within (Some most) left now TooLong = TakesAtMost most left now TooLong

-- What had happened at a source by the time that a result was to be reported: a read fault (`ReadFault`), too many
-- bytes (`TooLong`) or neither. Where the source's count is exact, one read failed if a read fault was to be reported,
-- and none otherwise. Too many bytes were reported exactly where one byte more was taken than are accepted, and then
-- nothing was read after it. `most` is how many are accepted, where there is a most.
pub record CameOfSource (most : Option ℕ) (exact : Bool) (reads : Counts) (left now : Option (List ℕ)) (ReadFault TooLong : Type 0)
    : Type 0 where
  pub counted : IsCounted exact ReadFault reads.before reads.after
  pub taken : takes_within most left now TooLong

-- the most bytes of a plan
abbrev pub plan_max : ℕ
plan_max = 1048576

-- What had happened at a source and a plant by the time that a result was to be reported. Where the plant's count is
-- exact, one of its calls failed if a plant fault was to be reported, and none otherwise.
pub record CameToFaults (source_exact plant_exact : Bool) (reads calls : Counts) (left now : Option (List ℕ))
    (ReadFault PlantFault TooLong : Type 0) : Type 0 where
  pub source : CameOfSource (Some plan_max) source_exact reads left now ReadFault TooLong
  pub plant : IsCounted plant_exact PlantFault calls.before calls.after

-- what had happened at source and plant by the time that this ending was to be reported
abbrev pub CameToEnding : {E : Type 0} → Endings E → Bool → Bool → Counts → Counts → Option (List ℕ) → Option (List ℕ) → E → Type 0
CameToEnding endings source_exact plant_exact reads calls left now how =
    CameToFaults source_exact plant_exact reads calls left now (how ≡ endings.of status.ReadFault) (how ≡ endings.of status.PlantFault)
    (how ≡ endings.of status.TooLong)
