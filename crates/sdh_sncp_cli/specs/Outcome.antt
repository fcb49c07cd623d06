-- How a call of the program ends: each ending, when it comes, and the text that goes with it.
use Rattle.std.specs.Prelude.{◌≡◌, ℕ, List, codes, Option, Some, None}
use Rattle.sdh_plant.specs.Fibres.{Fibres}
use Rattle.sdh_plan.specs.Planned.{Planned}
use Rattle.sdh_report.specs.Reports.{Report, text_of}
use Rattle.sdh_report.specs.declared.listing.Listing.TheVariants as listing
use Rattle.sdh_shell.specs.Calls.{asked_to_run}
use Rattle.sdh_shell.specs.Failing.{Counts}
use Rattle.sdh_programs.specs.Programs.{Deed, Refuses, Writes, Runs, as_script, Program}
use Rattle.sdh_programs.specs.Outcome as outcome
use Rattle.sdh_sncp.specs.Fixed.{AreAlone}
use Rattle.sdh_sncp.specs.Sharing.{AreFirstToShare}
use Rattle.sdh_sncp_cli.specs.Steps.{first_strange, AreKnown}
use Rattle.sdh_sncp_cli.specs.Plans.{IsRunOf, MaySettle}
use Rattle.sdh_sncp_cli.specs.Endings.{path_endings}
use Rattle.sdh_sncp_cli.specs.declared.ending.Ending.{Ending}
use Rattle.sdh_sncp_cli.specs.declared.ending.Ending.TheVariants as ending

-- What is done with a plan. If a path ring doesn't have one of its steps, the first such step is refused by its number.
-- Else, if two circuits share a slot, the first two are refused. Else the plan is run.
abbrev pub DoesPath : Planned → Deed (Unit {0}) Ending → Type 0
DoesPath plan (Refuses (ending.NoSuchStep step)) = first_strange plan.steps ≡ Some step
DoesPath plan (Refuses (ending.SameSlot first second)) = AreKnown plan.steps × AreFirstToShare plan.circuits first second
DoesPath plan (Refuses (ending.Shared how)) = ⊥
DoesPath plan (Writes told) = ⊥
DoesPath plan (Runs listing) = AreKnown plan.steps × AreAlone plan.circuits

-- the program that runs a plan over a path ring, and reports each settle step
abbrev pub pathing : Program (Unit {0}) (Unit {0}) Report Ending
pathing = record {
  usage = codes "usage: sdhpath run";
  asked = asked_to_run;
  endings = path_endings;
  closing = as_script (Unit {0}) Report path_endings;
  own_plan = λ ask. None;
  Does = λ ask. DoesPath;
  text_of = λ listed. text_of listing.Reports;
  IsRunOf = IsRunOf;
  MaySettle = λ listed. MaySettle;
}

-- what must be known of a source: its bytes, or nothing where it isn't read
abbrev pub told : List (List ℕ) → Option (List ℕ) → Option (List ℕ)
told words left = outcome.told pathing (asked_to_run words) left

-- what was written when a call returned this number
abbrev pub Answers : List (List ℕ) → List ℕ → Fibres → Fibres → Counts → Counts → ℕ → Option (List ℕ) → Option (List ℕ) → Type 0
Answers words = outcome.Answers pathing (asked_to_run words)
