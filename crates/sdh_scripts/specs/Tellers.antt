-- What a settle step comes to, if its report is written while its rounds run.
use Rattle.std.specs.Prelude.{ℕ, suc, ◌≡◌, ◌⊎◌, ◌<◌, ◌≤◌, List, ◌++◌, length, take, Option}
use Rattle.std.specs.Io.KnownBytes.{Appends}
use Rattle.sdh_outside.specs.Writing.{AppendsFewer}
use Rattle.sdh_plant.specs.Fibres.{Arrival}
use Rattle.sdh_rounds.specs.Held.{World}
use Rattle.sdh_rounds.specs.Runs.{run_with, ArriveIn, course_with, IsBrokenOff}
use Rattle.sdh_rounds.specs.Quiet.{EndsWindow, Settles, Unsettles}
use Rattle.sdh_status.specs.declared.Status.{Status}
use Rattle.sdh_status.specs.declared.Status.TheVariants as status
use Rattle.sdh_scripts.specs.Walks.{Walk}
use Rattle.sdh_scripts.specs.Scripts.{Ended, Breaks}
use Rattle.sdh_rounds.specs.declared.faults.SettleError.{SettleError}
use Rattle.sdh_rounds.specs.declared.faults.SettleError.TheVariants as settling
use Rattle.sdh_scripts.specs.declared.teller.StepError.{StepError}
use Rattle.sdh_scripts.specs.declared.teller.StepError.TheVariants.{Unsettled, PlantFault, WriteFault}

-- ---- the rounds of a settle step so far

-- rounds of a settle step ran, none of them after a quiet window, and this is reported of them
pub record InStep {N T : Type 0} (walk : Walk N T) (limit number : ℕ) (w : World N) (told : T) (mid : World N) : Type 0 where
  pub rounds : List (List Arrival)
  pub arrive : ArriveIn walk.station rounds w
  pub few : length rounds ≤ limit
  pub never : (j : ℕ) → j < length rounds → EndsWindow walk.station (course_with walk.station rounds w) j → ⊥
  pub mid_is : mid ≡ run_with walk.station rounds w
  pub told_is : told ≡ walk.tells number (course_with walk.station rounds w) (length rounds)

-- a settle step ended, some of the rounds after it ran, and this is reported of them all
pub record BehindStep {N T : Type 0} (walk : Walk N T) (limit number : ℕ) (w : World N) (told : T) (mid : World N) : Type 0 where
  pub settled : World N
  pub settles : Settles walk.station w limit settled
  pub rounds : List (List Arrival)
  pub arrive : ArriveIn walk.station rounds settled
  pub few : length rounds ≤ walk.behind
  pub mid_is : mid ≡ run_with walk.station rounds settled
  pub told_is : told ≡ walk.tells number (course_with walk.station (settles.rounds ++ rounds) w) (length settles.rounds)

abbrev pub SoFar : {N T : Type 0} → Walk N T → ℕ → ℕ → World N → T → World N → Type 0
SoFar walk limit number w told mid = InStep walk limit number w told mid ⊎ BehindStep walk limit number w told mid

-- this text is of the rounds of a settle step that ran so far; then no more ran, or the next one was broken off
pub record Begun {N T : Type 0} (walk : Walk N T) (limit number : ℕ) (begun_of : T → List ℕ) (w : World N) (text : List ℕ)
    (left : World N) : Type 0 where
  pub mid : World N
  pub told : T
  pub so_far : SoFar walk limit number w told mid
  pub next : (left ≡ mid) ⊎ IsBrokenOff walk.station mid left.fibres
  pub text_is : text ≡ begun_of told

-- ---- how a settle step didn't end

-- why a settle step, with the rounds after it, didn't end
abbrev pub StopsBy : {N T : Type 0} → Walk N T → ℕ → World N → StepError → World N → Type 0
StopsBy walk limit w Unsettled left = Unsettles walk.station w limit left
StopsBy walk limit w PlantFault left = Breaks walk limit w left.fibres
StopsBy walk limit w WriteFault left = Unit {0}

-- a settle step over a ring ends for one of two reasons; no write of its own fails
abbrev pub step_error : SettleError → StepError
step_error settling.Unsettled = Unsettled
step_error settling.PlantFault = PlantFault

-- how a script ends with settle step `number`, by why the step didn't end
abbrev pub ended_by : StepError → ℕ → Status
ended_by Unsettled number = status.Unsettled number
ended_by PlantFault number = status.PlantFault
ended_by WriteFault number = status.WriteFault

-- One more round of a settle step ran, or of the rounds after it, and no other: `told` is reported with it, and `before`
-- without it.
abbrev pub OneMore : {N T : Type 0} → Walk N T → ℕ → ℕ → World N → T → T → World N → Type 0
OneMore walk limit number w before told left =
    ((x : InStep walk limit number w told left) × (j : ℕ) × (length x.rounds ≡ suc j)
    × (before ≡ walk.tells number (course_with walk.station x.rounds w) j))
    ⊎ ((x : BehindStep walk limit number w told left) × (j : ℕ) × (length x.rounds ≡ suc j)
    × (before ≡ walk.tells number (course_with walk.station (x.settles.rounds ++ take j x.rounds) w) (length x.settles.rounds)))

-- What was to be written where a write failed: `first` before, and `last` then. It is the text of the rounds before the
-- one that ran last, and then what that round adds; or, where the step ended, the text of all its rounds, and then the
-- rest of the step's.
abbrev pub WasToWrite : {N T : Type 0} → Walk N T → ℕ → ℕ → (T → List ℕ) → (T → List ℕ) → World N → List ℕ → List ℕ → World N → Type 0
WasToWrite {T = T} walk limit number text_of begun_of w first last left =
    ((before : T) × (told : T) × OneMore walk limit number w before told left × (first ≡ begun_of before) × (first ++ last ≡ begun_of told))
    ⊎ ((told : T) × Ended walk limit number w told left × (first ≡ begun_of told) × (first ++ last ≡ text_of told))

-- a write failed in the second of two texts: all of the first one was written, and of that only a beginning, shorter
-- than it
abbrev pub CutIn : Option (List ℕ) → Option (List ℕ) → List ℕ → List ℕ → Type 0
CutIn old new first last = (mid : Option (List ℕ)) × Appends old mid first × AppendsFewer mid new last

-- What was written of a settle step that didn't end: the text of its rounds so far, which are all that ran where it was
-- unsettled. Where a write failed, it is all that was to be written before, and the first bytes of what was to be written
-- then.
abbrev pub WroteBegun : {N T : Type 0} → Walk N T → ℕ → ℕ → (T → List ℕ) → (T → List ℕ) → World N → StepError → World N
    → Option (List ℕ) → Option (List ℕ) → Type 0
WroteBegun walk limit number text_of begun_of w WriteFault left old new =
    (first : List ℕ) × (last : List ℕ) × WasToWrite walk limit number text_of begun_of w first last left × CutIn old new first last
WroteBegun walk limit number text_of begun_of w Unsettled left old new =
    (text : List ℕ) × (x : Begun walk limit number begun_of w text left) × (left ≡ x.mid) × Appends old new text
WroteBegun walk limit number text_of begun_of w PlantFault left old new =
    (text : List ℕ) × Begun walk limit number begun_of w text left × Appends old new text
