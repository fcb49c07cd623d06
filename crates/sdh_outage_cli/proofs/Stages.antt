-- What is asked with a plan comes to the run of what is listed.
use Rattle.std.proofs.Common.{◌≡◌, None, Some, [], ap, sym, subst, ◌∙◌}
use Rattle.std.specs.Prelude.{Option}
use Rattle.std.specs.Io.KnownBytes.{Appends}
use Rattle.sdh_plan.specs.Planned.{Planned}
use Rattle.sdh_status.specs.declared.Status.{Status}
use Rattle.sdh_status.specs.declared.Status.TheVariants as status
use Rattle.sdh_scripts.specs.NewRuns.{IsRunOfPlan}
use Rattle.sdh_scripts.proofs.Plans.{came_of}
use Rattle.sdh_programs.specs.Programs.{Deed, Refuses, Runs, deed_listing}
use Rattle.sdh_programs.specs.Deeds.{IsOnly}
use Rattle.sdh_programs.specs.Laws.{StepsAreReported}
use Rattle.sdh_programs.proofs.Promises.{RunsAlone, NeverWrites}
use Rattle.sdh_programs.proofs.Deeds.{listing_writes}
use Rattle.sdh_owed.specs.Laws.{ScriptsSettle}
use Rattle.sdh_outage_cli.specs.Scripts.{outage_walk}
use Rattle.sdh_outage_cli.specs.Lines.{outages_listed}
use Rattle.sdh_outage_cli.specs.Running.{running_ring}
use Rattle.sdh_outage_cli.specs.Plans.{outage_account, Tells}
use Rattle.sdh_outage_cli.specs.declared.listing.OutageListing.{OutageListing}
use Rattle.sdh_outage_cli.specs.declared.script.OutageRun.{OutageRun}
use Rattle.sdh_outage_cli.specs.Words.{OutageAsk, listing_of}
use Rattle.sdh_outage_cli.specs.Headline.{listening}
use Rattle.sdh_outage_cli.proofs.Plans.{tells}

-- what was written of the steps of a plan is what is listed of a run of the plan
pub reported : ScriptsSettle
    → StepsAreReported listening outage_walk running_ring (λ (r : OutageRun) told. outages_listed r.listing told) (λ r told. [])
    (λ listing plan run. IsRunOfPlan running_ring outage_account plan run × (run.runner.listing ≡ listing)) (λ told end ring. Unit {0})
reported settles listing plan run f old new end left begins fresh x =
    let y = came_of running_ring outage_account plan run begins.0 (outages_listed run.runner.listing) f left old new end x in
    let t : Tells plan run.runner.listing f y.0 end left.fibres =
    tells settles plan run.runner.listing f left.fibres y.0 end begins.0.form fresh.honest y.1 in
    record {
      told = t.reports;
      came = t.came;
      text = subst (Appends old new) (t.text_is ∙ ap (λ l. listening.text_of l t.reports) begins.1) y.2;
      leaves = tt;
    }

-- what is listed is what is done
pub listed_deed : (plan : Planned) (listing : OutageListing) (ask : OutageAsk) → listing_of ask plan ≡ Some listing
    → ◌≡◌ {A = Deed OutageListing Status} (Runs listing) (deed_listing (listing_of ask plan))
listed_deed plan listing ask is = sym (ap deed_listing is)

pub run_only : (plan : Planned) (listing : OutageListing) (ask : OutageAsk) → listing_of ask plan ≡ Some listing
    → IsOnly listening ask plan (Runs listing)
run_only plan listing ask is = let does = listed_deed plan listing ask is in record { does = does; only = λ other d. d ∙ sym does }

-- a plan that has no such port is refused
pub none_only : (plan : Planned) (ask : OutageAsk) → ◌≡◌ {A = Option OutageListing} (listing_of ask plan) None
    → IsOnly listening ask plan (Refuses status.NoSuchPort)
none_only plan ask is =
    let does : ◌≡◌ {A = Deed OutageListing Status} (Refuses status.NoSuchPort) (deed_listing (listing_of ask plan)) = sym (ap deed_listing is) in
    record { does = does; only = λ other d. d ∙ sym does }

-- ---- what is done with a plan

pub run_alone : (ask : OutageAsk) → RunsAlone listening ask
run_alone ask plan listing deed does other = other ∙ sym does

pub never_writes : (ask : OutageAsk) → NeverWrites listening ask
never_writes ask plan told does = listing_writes (listing_of ask plan) told does
