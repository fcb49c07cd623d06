use Rattle.std.proofs.Common.{List, ℕ, refl, subst, inl, inr}
use Rattle.std.specs.Prelude.{IfSome}
use Rattle.sdh_plant.specs.Arrivals.{Knows}
use Rattle.sdh_status.specs.declared.Status.{Status}
use Rattle.sdh_shell.specs.Calls.{words_of}
use Rattle.sdh_shell.specs.Endings.{statuses}
use Rattle.sdh_shell.specs.Failing.{Counts}
use Rattle.sdh_shell.specs.Reading.{told_if}
use Rattle.sdh_shell.specs.Writing.{WritesWith}
use Rattle.sdh_shell.proofs.Asked.{is_asked}
use Rattle.sdh_shell.proofs.Told.{told_all}
use Rattle.sdh_owed.specs.Plans.{world_of}
use Rattle.sdh_programs.specs.Outcome.{Answers, MayEnd, told}
use Rattle.sdh_programs.proofs.Stages.{reads_all}
use Rattle.sdh_programs.proofs.Promises.{promised, shows, settles, ends_as}
use Rattle.sdh_watch.specs.Plans.{ran_of, ShowsClean}
use Rattle.sdh_watch.specs.Headline.{asked, watching}
use Rattle.sdh_watch.proofs.Deeds.{run_alone, never_writes}
use Rattle.sdh_watch.proofs.top.sdhwatch.Goals as goal

pub returns-clause-outcome : goal.returns-clause-outcome
returns-clause-outcome g c =
    let means = g.P.Plant.fibres in
    let source = g.R.Source.left c.args.source.now in
    let a = asked (words_of c.args.words.now) in
    let reads : Counts = record { before = g.R.Source.faults c.args.source.now; after = g.R.Source.faults c.call.new.source } in
    let calls : Counts = record { before = g.P.Plant.faults c.args.plant.now; after = g.P.Plant.faults c.call.new.plant } in
    let old = g.W.Sink.written c.args.sink.now in
    let new = g.W.Sink.written c.call.new.sink in
    let f = means c.args.plant.now in
    let left = means c.call.new.plant in
    subst (λ b. IfSome (told_if b source) (λ (bytes : List ℕ). Answers watching a bytes f left reads calls c.number.result old new))
    (reads_all watching (λ ask. refl) a)
    (told_all (told watching a source)
    (λ (bytes : List ℕ). WritesWith statuses (λ (how : Status) (text : List ℕ). MayEnd watching a bytes f reads calls how text left)
    c.call.result old new)
    (λ (bytes : List ℕ). Answers watching a bytes f left reads calls c.number.result old new)
    (λ bytes x. record { ending = c.call.result; numbered = c.number.ensures; writes = x }) c.call.ensures.outcome)

pub returns-clause-owed : goal.returns-clause-owed
returns-clause-owed g c = λ run honest. (
    promised watching tt _ _ (asked (words_of c.args.words.now)) _ _ (g.R.Source.left c.args.source.now) c.call.result _ _
    _ (is_asked (words_of c.args.words.now) run)
    (λ bytes x. (
      c.call.result,
      c.number.ensures,
      shows watching tt _ _ _ _ bytes c.call.result _ _ x refl ShowsClean run_alone
          (λ plan told end came. came.owed honest),
    )) c.call.ensures.outcome)

pub returns-clause-settles : goal.returns-clause-settles
returns-clause-settles g c = λ run honest. (
    promised watching tt _ _ (asked (words_of c.args.words.now)) _ _ (g.R.Source.left c.args.source.now) c.call.result _ _
    _ (is_asked (words_of c.args.words.now) run)
    (λ bytes x. (
      c.call.result,
      c.number.ensures,
      settles watching tt _ _ _ _ bytes c.call.result _ _ x refl run_alone never_writes
          (λ plan told end came. came.settles honest),
    )) c.call.ensures.outcome)

pub returns-clause-unsettled : goal.returns-clause-unsettled
returns-clause-unsettled g c = λ run. (
    let f = g.P.Plant.fibres c.args.plant.now in
    promised watching tt f _ (asked (words_of c.args.words.now)) _ _ (g.R.Source.left c.args.source.now) c.call.result _ _
    _ (is_asked (words_of c.args.words.now) run)
    (λ bytes x. (
      c.call.result,
      c.number.ensures,
      λ plan tells h known. ends_as watching tt f _ _ _ bytes c.call.result _ _ x refl run_alone never_writes
          (λ plan. Knows (world_of plan f).fibres) (λ plan. (ran_of plan f).ending)
          (λ plan told end came knows. elim (came.known knows) [ inl done ↦ inl done.end_is | inr cut ↦ inr cut.0 ])
          plan c.call.result tells refl h known,
    )) c.call.ensures.outcome)

pub returns-clause-kept : goal.returns-clause-kept
returns-clause-kept g c = (c.call.result, c.number.ensures, c.call.ensures.kept)
