-- What a program that runs plans is asked for, and what it reports then.
use Rattle.std.specs.Prelude.{ℕ, ◌≡◌, ◌⊎◌, List, Option, Some, None}
use mathlib.Core.Logic.{inl}
use Rattle.sdh_plant.specs.Fibres.{Fibres}
use Rattle.sdh_plan.specs.Planned.{Planned}
use Rattle.sdh_status.specs.declared.Status.{Status}
use Rattle.sdh_status.specs.declared.Status.TheVariants as status
use Rattle.sdh_shell.specs.Calls.{HasRun}
use Rattle.sdh_shell.specs.Endings.{Endings}

-- What is done with a plan: it is refused with this ending; or this text is written of it, and no round is run; or it
-- is run, and this is listed of its settle steps.
pub data Deed (L E : Type 0) : Type 0 where
  Refuses : E → Deed L E
  Writes : List ℕ → Deed L E
  Runs : L → Deed L E

-- a plan is run where there is something to list of it; otherwise it lacks the port that is asked for, and is refused
abbrev pub deed_listing : {L : Type 0} → Option L → Deed L Status
deed_listing None = Refuses status.NoSuchPort
deed_listing (Some listing) = Runs listing

-- a run ends so: as a script does, or with an ending of the program's own
abbrev pub IsRunEnd : {E : Type 0} → Endings E → E → Type 0
IsRunEnd endings how = ((status : Status) × (how ≡ endings.of status) × HasRun status) ⊎ (endings.shared how ≡ None)

-- How a run that came to its end is closed: its ending and its last line. `L` is what is listed of the run, `T` what is
-- reported of a settle step.
pub record Closing {E : Type 0} (L T : Type 0) (endings : Endings E) : Type 0 where
  -- the ending of a run, by what it reported and how its script ended
  pub ends : L → List T → Status → E
  pub ends_run : (listing : L) (told : List T) (status : Status) → HasRun status → IsRunEnd endings (ends listing told status)
  -- the last line
  pub line : L → E → List ℕ

-- a run ends as its script did, with the line of that ending, whatever is listed of it
abbrev pub as_script : {E : Type 0} (L T : Type 0) (endings : Endings E) → Closing L T endings
as_script L T endings = record {
  ends = λ listing told how. endings.of how;
  ends_run = λ listing told how h. inl (how, (λ i. endings.of how), h);
  line = λ listing. endings.line;
}

-- A program that runs plans. `Ask` is what it can be asked for, `Listing` what can be listed of a plan, `Told` what is
-- reported of a settle step, whatever is listed of it, and `E` how the program ends.
pub record Program (Ask Listing Told E : Type 0) : Type 1 where
  -- how it is called
  pub usage : List ℕ
  -- what the words ask for, where they have one of its forms
  pub asked : List (List ℕ) → Option Ask
  -- how it ends
  pub endings : Endings E
  -- how a run is closed
  pub closing : Closing Listing Told endings
  -- the plan that what is asked names by itself; without one the plan is read from a source
  pub own_plan : Ask → Option Planned
  -- what is done with a plan
  pub Does : Ask → Planned → Deed Listing E → Type 0
  -- the text of what is listed of the settle steps' reports
  pub text_of : Listing → List Told → List ℕ
  -- what is reported of the settle steps of a plan that is run over new fibres, how the run ends, and the fibres that
  -- it leaves
  pub IsRunOf : Planned → Fibres → List Told → Status → Fibres → Type 0
  -- the plans and fibres with which a run comes to its end, by what is listed of it
  pub MaySettle : Listing → Planned → Fibres → Type 0
