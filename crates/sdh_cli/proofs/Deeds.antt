-- What is done with a plan.
use Rattle.std.proofs.Common.{◌≡◌, ℕ, None, Some, List, [], refl, ap, sym, subst, ◌∙◌, arith}
use Rattle.std.specs.Io.KnownBytes.{Appends}
use Rattle.sdh_plan.specs.Planned.{Planned}
use Rattle.sdh_report.specs.declared.listing.Listing.{Listing}
use Rattle.sdh_status.specs.declared.Status.{Status}
use Rattle.sdh_status.specs.declared.Status.TheVariants as status
use Rattle.sdh_report.specs.Reports.{listed, text_of}
use Rattle.sdh_scripts.specs.NewRuns.{IsRunOfPlan}
use Rattle.sdh_scripts.proofs.Plans.{came_of}
use Rattle.sdh_programs.specs.Programs.{Deed, Refuses, Writes, Runs, deed_listing}
use Rattle.sdh_programs.specs.Deeds.{IsOnly}
use Rattle.sdh_programs.specs.Laws.{StepsAreReported}
use Rattle.sdh_programs.proofs.Promises.{RunsAlone}
use Rattle.sdh_owed.specs.Course.{CoursesAreTold}
use Rattle.sdh_owed.specs.Laws.{ReportsAreOwed, ScriptsSettle, HealthyScripts}
use Rattle.sdh_owed.specs.Scripts.{adm_walk}
use Rattle.sdh_cli.specs.Tables.{tables_of}
use Rattle.sdh_cli.specs.Running.{running_ring}
use Rattle.sdh_cli.specs.Plans.{adm_account, Tells}
use Rattle.sdh_cli.specs.Words.{Ask, Run, Check, Drop, Big, ask_of, listing_of}
use Rattle.sdh_cli.specs.Outcome.{deed_of, ringing}
use Rattle.sdh_cli.specs.declared.script.RingRun.{RingRun}
use Rattle.sdh_cli.specs.declared.words.Command.{Command}
use Rattle.sdh_cli.specs.declared.words.Command.TheVariants as command
use Rattle.sdh_cli.proofs.Plans.{tells}

-- what was written of the steps of a plan is what is listed of a run of the plan
pub reported : ReportsAreOwed → ScriptsSettle → HealthyScripts → CoursesAreTold
    → StepsAreReported ringing adm_walk running_ring (λ (r : RingRun) told. listed r.listing told) (λ r told. [])
    (λ listing plan run. IsRunOfPlan running_ring adm_account plan run × (run.runner.listing ≡ listing)) (λ told end ring. Unit {0})
reported owed settles healthy courses listing plan run f old new end left begins fresh x =
    let y = came_of running_ring adm_account plan run begins.0 (listed run.runner.listing) f left old new end x in
    let t : Tells plan run.runner.listing f y.0 end left.fibres =
    tells owed settles healthy courses plan run.runner.listing f left.fibres y.0 end begins.0.form fresh.honest fresh.none y.1 in
    record {
      told = t.reports;
      came = t.came;
      text = subst (Appends old new) (t.text_is ∙ ap (λ l. text_of l t.reports) begins.1) y.2;
      leaves = tt;
    }

-- a plan that has a listing is run
pub listed_deed : (ask : Ask) (plan : Planned) (listing : Listing) → listing_of ask plan ≡ Some listing
    → ◌≡◌ {A = Deed Listing Status} (Runs listing) (deed_of ask plan)
listed_deed Run plan listing is = sym (ap deed_listing is)
listed_deed Check plan listing is = absurd (grind arith)
listed_deed (Drop name end) plan listing is = sym (ap deed_listing is)
listed_deed (Big number) plan listing is = sym (ap deed_listing is)

pub run_alone : (ask : Ask) → RunsAlone ringing ask
run_alone ask plan listing deed does other = other ∙ sym does

-- the tables of the plan are written, and nothing else is done
pub tables_only : (plan : Planned) (told : List ℕ) → told ≡ tables_of plan → IsOnly ringing Check plan (Writes told)
tables_only plan told is = record { does = ap Writes is; only = λ other d. d ∙ sym (ap Writes is) }

pub run_only : (ask : Ask) (plan : Planned) (listing : Listing) → listing_of ask plan ≡ Some listing → IsOnly ringing ask plan (Runs listing)
run_only ask plan listing is = let does = listed_deed ask plan listing is in record { does = does; only = λ other d. d ∙ sym does }

-- a plan that has no such port is refused
none_deed : (asked : Command) (plan : Planned) → (asked ≡ command.Check → ⊥) → listing_of (ask_of asked) plan ≡ None
    → ◌≡◌ {A = Deed Listing Status} (Refuses status.NoSuchPort) (deed_of (ask_of asked) plan)
none_deed command.Run plan other is = sym (ap deed_listing is)
none_deed command.Check plan other is = absurd (other refl)
none_deed (command.Drop name end) plan other is = sym (ap deed_listing is)
none_deed (command.Big number) plan other is = sym (ap deed_listing is)

pub none_only : (asked : Command) (plan : Planned) → (asked ≡ command.Check → ⊥) → listing_of (ask_of asked) plan ≡ None
    → IsOnly ringing (ask_of asked) plan (Refuses status.NoSuchPort)
none_only asked plan other is = let does = none_deed asked plan other is in record { does = does; only = λ deed d. d ∙ sym does }
