-- What the program promises of a plan that is run: what each port is owed over honest fibres, and how it ends.
use Rattle.std.specs.Prelude.{◌≡◌, ◌≢◌, ◌⊎◌, ℕ, ◌≤◌, List, ◌++◌, length, Option}
use Rattle.std.specs.Io.KnownBytes.{Appends}
use Rattle.sdh_plant.specs.Fibres.{Fibres}
use Rattle.sdh_plant.specs.Arrivals.{Knows}
use Rattle.sdh_rounds.specs.Quiet.{enough_for}
use Rattle.sdh_plan.specs.Planned.{Planned}
use Rattle.sdh_report.specs.Reports.{Report, text_of}
use Rattle.sdh_report.specs.declared.listing.Listing.TheVariants as listing
use Rattle.sdh_status.specs.declared.Status.{Status}
use Rattle.sdh_status.specs.declared.Status.TheVariants as status
use Rattle.sdh_report.specs.Statuses.{last_line}
use Rattle.sdh_shell.specs.Reading.{TellsPlan}
use Rattle.sdh_sncp.specs.Fixed.{AreAlone}
use Rattle.sdh_sncp_cli.specs.Steps.{AreKnown}
use Rattle.sdh_sncp_cli.specs.Promise.{PathOwesAll}
use Rattle.sdh_sncp_cli.specs.Plans.{world_of, ran_of}
use Rattle.sdh_shell.specs.Calls.{AreRun}

-- The words ask for a run, and these are the bytes of this plan. All its steps are those of a path ring, and no two of
-- its circuits share a slot.
pub record IsRunPlan (words : List (List ℕ)) (bytes : List ℕ) (plan : Planned) : Type 0 where
  pub words_are : AreRun words
  pub tells : TellsPlan bytes plan
  pub known : AreKnown plan.steps
  pub alone : AreAlone plan.circuits

-- The number with which the program ends where the script ended with this status: 0 where it is done, 7 where a settle
-- step was unsettled, and 8 where a call of the plant failed.
abbrev pub RanTo : ℕ → Status → Type 0
RanTo number status.Ok = number ≡ 0
RanTo number (status.Unsettled k) = number ≡ 7
RanTo number status.PlantFault = number ≡ 8
RanTo number how = ⊥

-- the number is one with which the program ends where a script was run
abbrev pub HasRun : ℕ → Type 0
HasRun number = (number ≡ 0) ⊎ ((number ≡ 7) ⊎ (number ≡ 8))

-- What was written is the text of reports and the last line. The reports show for every port what it is owed by the
-- conditions of the fibres that the script gives.
abbrev pub Delivers : List (List ℕ) → List ℕ → ℕ → Option (List ℕ) → Option (List ℕ) → Type 0
Delivers words bytes number old new = (plan : Planned) → IsRunPlan words bytes plan → HasRun number
    → (how : Status) × (reports : List Report) × RanTo number how × Appends old new (text_of listing.Reports reports ++ last_line how)
    × PathOwesAll plan reports how

-- Where the arrivals are known, the program ends as the script does: unsettled at exactly the step in which no quiet
-- window comes within the limit. Or a call of the plant failed.
abbrev pub EndsAsItRuns : List (List ℕ) → List ℕ → Fibres → ℕ → Type 0
EndsAsItRuns words bytes f number =
    (plan : Planned) → IsRunPlan words bytes plan → HasRun number → Knows (world_of plan f).fibres
    → RanTo number (ran_of plan f).ending ⊎ (number ≡ 8)

-- no settle step is unsettled if the limit is large enough
abbrev pub AlwaysSettles : List (List ℕ) → List ℕ → ℕ → Type 0
AlwaysSettles words bytes number = (plan : Planned) → IsRunPlan words bytes plan → enough_for (length plan.nodes) ≤ plan.limit → number ≢ 7
