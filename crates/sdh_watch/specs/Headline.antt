-- What the program reports of a plan, and how it ends.
use Rattle.std.specs.Prelude.{ℕ, ◌≡◌, List, codes, Option, None}
use Rattle.sdh_plant.specs.Fibres.{Fibres}
use Rattle.sdh_plant.specs.Arrivals.{Knows}
use Rattle.sdh_status.specs.declared.Status.{Status}
use Rattle.sdh_status.specs.Numbers.{number_of}
use Rattle.sdh_owed.specs.Plans.{world_of}
use Rattle.sdh_shell.specs.Calls.{asked_to_run}
use Rattle.sdh_shell.specs.Endings.{statuses}
use Rattle.sdh_programs.specs.Programs.{Runs, as_script, Program}
use Rattle.sdh_programs.specs.Headline.{EndsAs}
use Rattle.sdh_watch.specs.Shows.{Watched}
use Rattle.sdh_watch.specs.Lines.{text_of}
use Rattle.sdh_watch.specs.Plans.{IsRunOf, ran_of, MaySettle}

-- what the words ask for: one thing, with the word `run` alone
abbrev pub asked : List (List ℕ) → Option (Unit {0})
asked = asked_to_run

-- the program that runs a plan with watches, and reports what they show after each settle step
abbrev pub watching : Program (Unit {0}) (Unit {0}) Watched Status
watching = record {
  usage = codes "usage: sdhwatch run";
  asked = asked;
  endings = statuses;
  closing = as_script (Unit {0}) Watched statuses;
  own_plan = λ ask. None;
  Does = λ ask plan deed. deed ≡ Runs tt;
  text_of = λ listing. text_of;
  IsRunOf = IsRunOf;
  MaySettle = λ listing. MaySettle;
}

-- the number is that of a status for which `Is` holds
abbrev pub IsNumberOf : ℕ → (Status → Type 0) → Type 0
IsNumberOf number Is = (how : Status) × (number ≡ number_of how) × Is how

-- Where the arrivals are known, the program ends as the script does: unsettled at exactly the step in which no quiet
-- window comes within the limit. Or a call of the plant failed.
abbrev pub EndsAsItRuns : List ℕ → Fibres → Status → Type 0
EndsAsItRuns bytes f how = EndsAs (λ plan. Knows (world_of plan f).fibres) (λ plan. (ran_of plan f).ending) bytes how
