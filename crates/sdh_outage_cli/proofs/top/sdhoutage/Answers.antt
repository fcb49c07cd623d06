use Rattle.std.proofs.Common.{refl, subst, inl, inr}
use Rattle.std.specs.Prelude.{IfSome}
use Rattle.sdh_plant.specs.Arrivals.{Knows}
use Rattle.sdh_shell.specs.Calls.{words_of}
use Rattle.sdh_shell.specs.Failing.{Counts}
use Rattle.sdh_shell.specs.Reading.{told_if}
use Rattle.sdh_shell.specs.Writing.{Writes}
use Rattle.sdh_owed.specs.Plans.{world_of}
use Rattle.sdh_programs.specs.Outcome.{MayEnd}
use Rattle.sdh_programs.specs.Headline.{AlwaysSettles}
use Rattle.sdh_programs.proofs.Stages.{reads_all}
use Rattle.sdh_programs.proofs.Promises.{promised, settles, ends_as}
use Rattle.sdh_outage_cli.specs.Plans.{ran_of}
use Rattle.sdh_outage_cli.specs.Words.{asked}
use Rattle.sdh_outage_cli.specs.Headline.{listening, EndsAsItRuns}
use Rattle.sdh_outage_cli.proofs.Stages.{run_alone, never_writes}
use Rattle.sdh_outage_cli.proofs.top.sdhoutage.Goals as goal

pub returns-clause-outcome : goal.returns-clause-outcome
returns-clause-outcome g c =
    let means = g.P.Plant.fibres in
    let a = asked (words_of c.args.words.now) in
    let reads : Counts = record { before = g.R.Source.faults c.args.source.now; after = g.R.Source.faults c.call.new.source } in
    let calls : Counts = record { before = g.P.Plant.faults c.args.plant.now; after = g.P.Plant.faults c.call.new.plant } in
    subst (λ b. IfSome (told_if b (g.R.Source.left c.args.source.now)) (λ bytes. Writes
    (λ how text. MayEnd listening a bytes (means c.args.plant.now) reads calls how text (means c.call.new.plant)) c.call.result
    (g.W.Sink.written c.args.sink.now) (g.W.Sink.written c.call.new.sink)))
    (reads_all listening (λ ask. refl) a) c.call.ensures.outcome

pub returns-clause-settles : goal.returns-clause-settles
returns-clause-settles g c = λ ask is honest. (
    let means = g.P.Plant.fibres in
    let f = means c.args.plant.now in
    let left = means c.call.new.plant in
    let reads : Counts = record { before = g.R.Source.faults c.args.source.now; after = g.R.Source.faults c.call.new.source } in
    let calls : Counts = record { before = g.P.Plant.faults c.args.plant.now; after = g.P.Plant.faults c.call.new.plant } in
    let old = g.W.Sink.written c.args.sink.now in
    let new = g.W.Sink.written c.call.new.sink in
    promised listening ask f left (asked (words_of c.args.words.now)) reads calls (g.R.Source.left c.args.source.now) c.call.result old new
    (λ bytes. AlwaysSettles bytes c.call.result) is
    (λ bytes x. settles listening ask f left reads calls bytes c.call.result old new x refl (run_alone ask) (never_writes ask)
    (λ plan told end came. came.settles honest)) c.call.ensures.outcome)

pub returns-clause-unsettled : goal.returns-clause-unsettled
returns-clause-unsettled g c = λ ask is. (
    let means = g.P.Plant.fibres in
    let f = means c.args.plant.now in
    let left = means c.call.new.plant in
    let reads : Counts = record { before = g.R.Source.faults c.args.source.now; after = g.R.Source.faults c.call.new.source } in
    let calls : Counts = record { before = g.P.Plant.faults c.args.plant.now; after = g.P.Plant.faults c.call.new.plant } in
    let old = g.W.Sink.written c.args.sink.now in
    let new = g.W.Sink.written c.call.new.sink in
    promised listening ask f left (asked (words_of c.args.words.now)) reads calls (g.R.Source.left c.args.source.now) c.call.result old new
    (λ bytes. EndsAsItRuns bytes f c.call.result) is
    (λ bytes x plan tells h known. ends_as listening ask f left reads calls bytes c.call.result old new x refl (run_alone ask)
    (never_writes ask) (λ plan. Knows (world_of plan f).fibres) (λ plan. (ran_of plan f).ending)
    (λ plan told end came knows. elim (came.known knows) [ inl done ↦ inl done.end_is | inr cut ↦ inr cut.0 ])
    plan c.call.result tells refl h known) c.call.ensures.outcome)
