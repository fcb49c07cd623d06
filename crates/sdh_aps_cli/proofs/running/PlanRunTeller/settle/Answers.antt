use Rattle.std.proofs.Common.{◌≡◌, ◌+◌, sym, subst}
use Rattle.std.specs.Prelude.{OnOk, IfErr}
use Rattle.sdh_rounds.specs.Held.{world}
use Rattle.sdh_scripts.specs.Tellers.{WroteBegun}
use Rattle.sdh_aps_cli.specs.Signalled.{Signalled}
use Rattle.sdh_aps_cli.specs.Scripts.{signalling_walk}
use Rattle.sdh_aps_cli.specs.Listing.{begun_of, ended_of}
use Rattle.sdh_aps_cli.specs.Running.{running_ring, listing_in}
use Rattle.sdh_aps_cli.specs.declared.running.PlanRun.{PlanRun}
use Rattle.sdh_aps_cli.specs.declared.running.PlanRun.TheVariants as run
use Rattle.sdh_aps_cli.proofs.running.PlanRunTeller.settle.Goals as goal

pub returns-in-Lines-clause-begun : goal.returns-in-Lines-clause-begun
returns-in-Lines-clause-begun g c =
    let means = g.P.Plant.fibres in
    subst (λ (r : PlanRun). IfErr c.settle.result (λ why. WroteBegun signalling_walk c.args.limit (c.args.number + 1)
    (λ (told : Signalled). ended_of (listing_in r) told) (λ (told : Signalled). begun_of (listing_in r) told)
    (world (running_ring r) (means c.args.plant.now)) why
    (world (running_ring (run.Lines c.settle.new.self)) (means c.settle.new.plant))
    (g.W.Sink.written c.args.output.now) (g.W.Sink.written c.settle.new.output))) (sym c.in-Lines.is) c.settle.ensures.begun

pub returns-in-Lines-clause-writes : goal.returns-in-Lines-clause-writes
returns-in-Lines-clause-writes g c =
    subst (λ (r : PlanRun). OnOk c.settle.result
    ((λ (told : Signalled). ended_of (listing_in (run.Lines c.settle.new.self)) told) ≡ (λ (told : Signalled). ended_of (listing_in r) told)))
    (sym c.in-Lines.is) c.settle.ensures.writes

pub returns-in-Lines-clause-begins : goal.returns-in-Lines-clause-begins
returns-in-Lines-clause-begins g c =
    subst (λ (r : PlanRun). OnOk c.settle.result
    ((λ (told : Signalled). begun_of (listing_in (run.Lines c.settle.new.self)) told) ≡ (λ (told : Signalled). begun_of (listing_in r) told)))
    (sym c.in-Lines.is) c.settle.ensures.begins

pub returns-in-Frames-clause-begun : goal.returns-in-Frames-clause-begun
returns-in-Frames-clause-begun g c =
    let means = g.P.Plant.fibres in
    subst (λ (r : PlanRun). IfErr c.settle-in-Frames.result (λ why. WroteBegun signalling_walk c.args.limit (c.args.number + 1)
    (λ (told : Signalled). ended_of (listing_in r) told) (λ (told : Signalled). begun_of (listing_in r) told)
    (world (running_ring r) (means c.args.plant.now)) why
    (world (running_ring (run.Frames c.settle-in-Frames.new.self)) (means c.settle-in-Frames.new.plant))
    (g.W.Sink.written c.args.output.now) (g.W.Sink.written c.settle-in-Frames.new.output))) (sym c.in-Frames.is) c.settle-in-Frames.ensures.begun

pub returns-in-Frames-clause-writes : goal.returns-in-Frames-clause-writes
returns-in-Frames-clause-writes g c =
    subst (λ (r : PlanRun). OnOk c.settle-in-Frames.result
    ((λ (told : Signalled). ended_of (listing_in (run.Frames c.settle-in-Frames.new.self)) told) ≡ (λ (told : Signalled). ended_of (listing_in r) told)))
    (sym c.in-Frames.is) c.settle-in-Frames.ensures.writes

pub returns-in-Frames-clause-begins : goal.returns-in-Frames-clause-begins
returns-in-Frames-clause-begins g c =
    subst (λ (r : PlanRun). OnOk c.settle-in-Frames.result
    ((λ (told : Signalled). begun_of (listing_in (run.Frames c.settle-in-Frames.new.self)) told) ≡ (λ (told : Signalled). begun_of (listing_in r) told)))
    (sym c.in-Frames.is) c.settle-in-Frames.ensures.begins
