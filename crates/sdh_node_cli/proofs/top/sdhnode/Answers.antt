use Rattle.std.proofs.Common.{ap, sym, ◌∙◌, subst, refl, inl, le_refl}
use Rattle.std.specs.Prelude.{Option, Some, None}
use Rattle.std.proofs.KnownBytes.{Consumes-nil}
use Rattle.sdh_status.specs.declared.Status.TheVariants as status
use Rattle.sdh_shell.specs.Calls.{words_of}
use Rattle.sdh_shell.specs.Failing.{Counts}
use Rattle.sdh_shell.specs.Kept.{seen_around}
use Rattle.sdh_shell.specs.Writing.{IsShown}
use Rattle.sdh_node_cli.specs.Endings.{bench_endings}
use Rattle.sdh_node_cli.specs.declared.words.Ask.{Ask}
use Rattle.sdh_node_cli.specs.declared.ending.Ending.TheVariants as ending
use Rattle.sdh_node_cli.specs.Words.{asked}
use Rattle.sdh_node_cli.specs.Outcome.{Tells, KeepsBench}
use Rattle.sdh_node_cli.proofs.Told.{goes_usage}
use Rattle.sdh_node_cli.proofs.Kept.{some_none, outcome_reported, tells_of, tells_nothing, kept_asked, kept_memory, kept_usage}
use Rattle.sdh_node_cli.proofs.top.sdhnode.Goals as goal

-- ---- something is asked for

pub returns-in-Ok-clause-outcome : goal.returns-in-Ok-clause-outcome
returns-in-Ok-clause-outcome g c =
    let left = g.R.Source.left c.args.source.now in
    let now = g.R.Source.left c.answer.new.source in
    let old = g.W.Sink.written c.args.sink.now in
    let new = g.W.Sink.written c.answer.new.sink in
    let reads : Counts = record { before = g.R.Source.faults c.args.source.now; after = g.R.Source.faults c.answer.new.source } in
    let ask = c.in-Some.ask in
    subst (λ (a : Option Ask). Tells a reads left now c.in-Ok.ending old new) (sym c.in-Some.is ∙ c.asked.ensures)
    (tells_of (Some ask) g.R.Source.exact reads left now c.in-Ok.ending old new
    (λ h text may. (outcome_reported ask left now h text may).shown) c.in-Ok.ensures.goes)

pub returns-in-Ok-clause-kept : goal.returns-in-Ok-clause-kept
returns-in-Ok-clause-kept g c =
    let source = seen_around g.R.Source.faults g.R.Source.exact g.R.Source.left c.args.source.now c.answer.new.source in
    let sink = seen_around g.W.Sink.faults g.W.Sink.exact g.W.Sink.written c.args.sink.now c.answer.new.sink in
    subst (λ (a : Option Ask). KeepsBench a source sink c.in-Ok.ending) (sym c.in-Some.is ∙ c.asked.ensures)
    (kept_asked source sink c.in-Ok.ending c.in-Some.ask c.in-Ok.ensures.goes c.in-Ok.ensures.writes c.answer.ensures.later.0
    c.answer.ensures.later.1)

pub returns-in-Err-clause-outcome : goal.returns-in-Err-clause-outcome
returns-in-Err-clause-outcome g c =
    let reads : Counts = record { before = g.R.Source.faults c.args.source.now; after = g.R.Source.faults c.answer.new.source } in
    tells_nothing (asked (words_of c.args.words.now)) reads (g.R.Source.left c.args.source.now) (g.R.Source.left c.answer.new.source)
    (g.W.Sink.written c.args.sink.now) (g.W.Sink.written c.answer.new.sink) (ap g.W.Sink.written c.in-Err.ensures.memory.unwritten)

pub returns-in-Err-clause-kept : goal.returns-in-Err-clause-kept
returns-in-Err-clause-kept g c =
    let source = seen_around g.R.Source.faults g.R.Source.exact g.R.Source.left c.args.source.now c.answer.new.source in
    let sink = seen_around g.W.Sink.faults g.W.Sink.exact g.W.Sink.written c.args.sink.now c.answer.new.sink in
    let out = c.in-Err.ensures.memory in
    subst (λ (a : Option Ask). KeepsBench a source sink (ending.Shared status.Memory)) (sym c.in-Some.is ∙ c.asked.ensures)
    (kept_memory source sink (ending.Shared status.Memory) (Some c.in-Some.ask) refl out.unwritten out.read out.none (λ is. absurd (some_none c.in-Some.ask is))
    c.answer.ensures.later.0)

-- ---- the words have none of the two forms

pub returns-in-Ok-usage-clause-outcome : goal.returns-in-Ok-usage-clause-outcome
returns-in-Ok-usage-clause-outcome g c =
    let left = g.R.Source.left c.args.source.now in
    let old = g.W.Sink.written c.args.sink.now in
    let new = g.W.Sink.written c.usage.new.sink in
    let faults = g.R.Source.faults c.args.source.now in
    let end = c.in-Ok-usage.how in
    let reads : Counts = record { before = faults; after = faults } in
    subst (λ (a : Option Ask). Tells a reads left left end old new) (sym c.in-None.is ∙ c.asked.ensures)
    (tells_of None g.R.Source.exact reads left left end old new (λ h text may. subst (IsShown bench_endings) (sym may.0) refl)
    (goes_usage left g.R.Source.exact faults end old new c.in-Ok-usage.ensures.wrote))

pub returns-in-Ok-usage-clause-kept : goal.returns-in-Ok-usage-clause-kept
returns-in-Ok-usage-clause-kept g c =
    let source = seen_around g.R.Source.faults g.R.Source.exact g.R.Source.left c.args.source.now c.args.source.now in
    let sink = seen_around g.W.Sink.faults g.W.Sink.exact g.W.Sink.written c.args.sink.now c.usage.new.sink in
    subst (λ (a : Option Ask). KeepsBench a source sink c.in-Ok-usage.how) (sym c.in-None.is ∙ c.asked.ensures)
    (kept_usage source sink c.in-Ok-usage.how refl c.in-Ok-usage.ensures.wrote c.in-Ok-usage.ensures.writes)

pub returns-in-Err-usage-clause-kept : goal.returns-in-Err-usage-clause-kept
returns-in-Err-usage-clause-kept g c =
    let source = seen_around g.R.Source.faults g.R.Source.exact g.R.Source.left c.args.source.now c.args.source.now in
    let sink = seen_around g.W.Sink.faults g.W.Sink.exact g.W.Sink.written c.args.sink.now c.usage.new.sink in
    subst (λ (a : Option Ask). KeepsBench a source sink (ending.Shared status.Memory)) (sym c.in-None.is ∙ c.asked.ensures)
    (kept_memory source sink (ending.Shared status.Memory) None refl c.in-Err-usage.ensures.memory (inl (Consumes-nil _)) (λ e. refl) (λ is. refl) (le_refl _))
