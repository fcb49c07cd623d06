use Rattle.std.proofs.Common.{◌≡◌, sym, subst}
use Rattle.std.specs.Prelude.{OnOk}
use Rattle.sdh_aps_cli.specs.Signalled.{Signalled}
use Rattle.sdh_aps_cli.specs.Listing.{begun_of, ended_of}
use Rattle.sdh_aps_cli.specs.Running.{listing_in}
use Rattle.sdh_aps_cli.specs.declared.running.PlanRun.{PlanRun}
use Rattle.sdh_aps_cli.specs.declared.running.PlanRun.TheVariants as run
use Rattle.sdh_aps_cli.proofs.running.PlanRunTeller.change.Goals as goal

pub returns-in-Lines-clause-begins : goal.returns-in-Lines-clause-begins
returns-in-Lines-clause-begins g c =
    subst (λ (r : PlanRun). OnOk c.change.result ((λ (told : Signalled). begun_of (listing_in (run.Lines c.change.new.self)) told)
    ≡ (λ (told : Signalled). begun_of (listing_in r) told))) (sym c.in-Lines.is) c.change.ensures.begins

pub returns-in-Frames-clause-writes : goal.returns-in-Frames-clause-writes
returns-in-Frames-clause-writes g c =
    subst (λ (r : PlanRun). OnOk c.change-in-Frames.result
    ((λ (told : Signalled). ended_of (listing_in (run.Frames c.change-in-Frames.new.self)) told)
    ≡ (λ (told : Signalled). ended_of (listing_in r) told))) (sym c.in-Frames.is) c.change-in-Frames.ensures.writes

pub returns-in-Frames-clause-begins : goal.returns-in-Frames-clause-begins
returns-in-Frames-clause-begins g c =
    subst (λ (r : PlanRun). OnOk c.change-in-Frames.result
    ((λ (told : Signalled). begun_of (listing_in (run.Frames c.change-in-Frames.new.self)) told)
    ≡ (λ (told : Signalled). begun_of (listing_in r) told))) (sym c.in-Frames.is) c.change-in-Frames.ensures.begins
