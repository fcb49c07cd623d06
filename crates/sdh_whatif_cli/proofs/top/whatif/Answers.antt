use Rattle.std.proofs.Common.{ℕ, List, OnErr, refl, inr, subst}
use Rattle.sdh_outside.specs.Writing.{AppendsFewer}
use Rattle.sdh_status.specs.declared.Status.TheVariants as status
use Rattle.sdh_shell.specs.Calls.{words_of}
use Rattle.sdh_shell.specs.Kept.{seen_around}
use Rattle.sdh_shell.specs.Writing.{Writes}
use Rattle.sdh_shell.proofs.Told.{told_all}
use Rattle.sdh_whatif_cli.specs.Words.{asked, own_texts}
use Rattle.sdh_whatif_cli.specs.Outcome.{IsOutcome}
use Rattle.sdh_whatif_cli.proofs.Kept.{kept_ended, kept_nothing}
use Rattle.sdh_whatif_cli.proofs.top.whatif.Goals as goal

-- a write failed: a front of the text was written
pub returns-in-Err-clause-outcome : goal.returns-in-Err-clause-outcome
returns-in-Err-clause-outcome g c =
    let ended = c.in-Ok.ensures.ended in
    let old = g.W.Sink.written c.args.sink.now in
    let new = g.W.Sink.written c.answer.new.sink in
    let fewer : AppendsFewer old new ended.text =
    subst (λ r. OnErr r (AppendsFewer old new ended.text)) c.in-Err.is ended.wrote.front in
    let is_outcome = IsOutcome (asked (words_of c.args.words.now)) (own_texts (words_of c.args.words.now)) in
    told_all _ _ (λ (bytes : List ℕ). Writes (λ how text. is_outcome bytes how text) status.WriteFault old new)
    (λ bytes is. (c.in-Ok.told.status, ended.text, is, fewer)) ended.outcome

pub returns-in_default-clause-kept : goal.returns-in_default-clause-kept
returns-in_default-clause-kept g c =
    let none = c.in_default.ensures in
    kept_nothing (asked (words_of c.args.words.now)) (own_texts (words_of c.args.words.now))
    (seen_around g.R.Source.faults g.R.Source.exact g.R.Source.left c.args.source.now c.answer.new.source)
    (seen_around g.W.Sink.faults g.W.Sink.exact g.W.Sink.written c.args.sink.now c.answer.new.sink) none.memory.0 none.memory.1 none.few
    none.unread none.later

pub returns-in-Err-clause-kept : goal.returns-in-Err-clause-kept
returns-in-Err-clause-kept g c =
    let e = c.answer.ensures in
    kept_ended (asked (words_of c.args.words.now)) (own_texts (words_of c.args.words.now))
    (seen_around g.R.Source.faults g.R.Source.exact g.R.Source.left c.args.source.now c.answer.new.source)
    (seen_around g.W.Sink.faults g.W.Sink.exact g.W.Sink.written c.args.sink.now c.answer.new.sink) c.in-Ok.told.status c.in-Ok.told.wrote
    c.in-Ok.ensures.ended status.WriteFault (inr (refl, _, c.in-Err.is)) e.unread e.later
