-- What the program does with a plan.
use Rattle.std.proofs.Common.{Some, [], refl, sym, subst, ◌∙◌}
use Rattle.std.specs.Io.KnownBytes.{Appends}
use Rattle.sdh_plan.specs.Planned.{Planned}
use Rattle.sdh_scripts.specs.NewRuns.{IsRunOfPlan}
use Rattle.sdh_scripts.proofs.Plans.{came_of}
use Rattle.sdh_programs.specs.Programs.{Runs}
use Rattle.sdh_programs.specs.Deeds.{IsOnly}
use Rattle.sdh_programs.specs.Laws.{StepsAreReported}
use Rattle.sdh_programs.proofs.Promises.{RunsAlone, NeverWrites}
use Rattle.sdh_programs.proofs.Deeds.{listing_writes}
use Rattle.sdh_watch.specs.Scripts.{watch_walk}
use Rattle.sdh_watch.specs.Running.{running_ring}
use Rattle.sdh_watch.specs.Laws.{WatchesAreClean, WatchedScriptsSettle}
use Rattle.sdh_watch.specs.Lines.{watched_text}
use Rattle.sdh_watch.specs.Plans.{watch_account}
use Rattle.sdh_watch.specs.Headline.{watching}
use Rattle.sdh_watch.specs.declared.script.WatchRun.{WatchRun}
use Rattle.sdh_watch.proofs.Plans.{tells}

pub run_alone : RunsAlone watching tt
run_alone plan listing deed does other = other ∙ sym does

pub never_writes : NeverWrites watching tt
never_writes plan told does = listing_writes (Some tt) told does

pub run_only : (plan : Planned) → IsOnly watching tt plan (Runs tt)
run_only plan = record { does = refl; only = λ other d. d }

-- what was written of the steps of a plan is what is listed of a run of the plan
pub reported : WatchesAreClean → WatchedScriptsSettle
    → StepsAreReported watching watch_walk running_ring (λ (r : WatchRun) told. watched_text told) (λ r told. [])
    (λ listing plan run. IsRunOfPlan running_ring watch_account plan run) (λ told end ring. Unit {0})
reported clean settles listing plan run f old new end left is fresh x =
    let y = came_of running_ring watch_account plan run is watched_text f left old new end x in
    let t = tells clean settles plan f left.fibres y.0 end is.form fresh.honest y.1 in
    record { told = t.reports; came = t.came; text = subst (Appends old new) t.text_is y.2; leaves = tt }
