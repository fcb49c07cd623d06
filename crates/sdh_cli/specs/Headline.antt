-- What the program promises of a plan that is run: the headline over honest fibres, how it ends, and what a healthy
-- ring shows.
use Rattle.std.specs.Prelude.{◌≡◌, ◌≢◌, ◌⊎◌, ℕ, ◌≤◌, List, ◌++◌, length, Option, Some, None}
use Rattle.std.specs.Io.KnownBytes.{Appends}
use Rattle.sdh_plant.specs.Fibres.{Fibres}
use Rattle.sdh_plant.specs.Arrivals.{Knows}
use Rattle.sdh_plan.specs.Planned.{Planned}
use Rattle.sdh_status.specs.declared.Status.{Status}
use Rattle.sdh_status.specs.declared.Status.TheVariants as status
use Rattle.sdh_report.specs.declared.listing.Listing.{Listing}
use Rattle.sdh_report.specs.Reports.{Report, text_of}
use Rattle.sdh_report.specs.Statuses.{last_line}
use Rattle.sdh_rounds.specs.Quiet.{enough_for}
use Rattle.sdh_owed.specs.Plans.{world_of}
use Rattle.sdh_cli.specs.Plans.{ran_of, AreAsPromised}
use Rattle.sdh_cli.specs.Words.{Ask, listing_of}
use Rattle.sdh_cli.specs.Outcome.{own_plan}
use Rattle.sdh_programs.specs.Headline as headline
use Rattle.sdh_shell.specs.Calls.{HasRun}

-- the plan of what is asked: that of the source's bytes, or for `big` the large plan of the number
abbrev pub IsRingPlanFor : Ask → List ℕ → Planned → Type 0
IsRingPlanFor ask bytes plan = headline.is_plan_for (own_plan ask) bytes plan

-- this plan is run, and this is listed of its reports
abbrev pub RunsAndLists : Option Ask → List ℕ → Planned → Listing → Type 0
RunsAndLists None bytes plan listing = ⊥
RunsAndLists (Some ask) bytes plan listing = IsRingPlanFor ask bytes plan × (listing_of ask plan ≡ Some listing)

-- The promise, of one list of reports. What was written is what is listed of them, and the last line. They show for
-- every port what it is owed by the restoration model, under the requests of the script's history. A script of settle
-- steps alone shows a healthy ring. In every round that gave the reports, settled or not, no port meets a stranger,
-- except in a step right before which a node that passes through is held. After the changes before each settle step
-- every port soon has what it is owed.
abbrev pub IsAsPromised : Option Ask → List ℕ → Fibres → Status → Option (List ℕ) → Option (List ℕ) → Fibres → Type 0
IsAsPromised ask bytes f how old new left = (plan : Planned) (listing : Listing) → RunsAndLists ask bytes plan listing → HasRun how
    → (reports : List Report) × Appends old new (text_of listing reports ++ last_line how) × AreAsPromised plan f reports how left

-- the program ends as the script does where the arrivals are known: unsettled at exactly the step in which no quiet
-- window comes within the limit; or a plant's call failed
abbrev pub EndsAsItRuns : Option Ask → List ℕ → Fibres → Status → Type 0
EndsAsItRuns ask bytes f how = (plan : Planned) (listing : Listing) → RunsAndLists ask bytes plan listing → HasRun how
    → Knows (world_of plan f).fibres → (how ≡ (ran_of plan f).ending) ⊎ (how ≡ status.PlantFault)

-- with a limit that is always enough no settle step is unsettled
abbrev pub AlwaysSettles : Option Ask → List ℕ → Status → Type 0
AlwaysSettles ask bytes how = (plan : Planned) (listing : Listing) → RunsAndLists ask bytes plan listing
    → enough_for (length plan.nodes) ≤ plan.limit → (k : ℕ) → how ≢ status.Unsettled k
