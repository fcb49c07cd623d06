use Rattle.std.proofs.Common.{List, ℕ, [], refl, subst, inl, inr}
use Rattle.std.specs.Io.KnownBytes.{Appends}
use Rattle.sdh_outside.specs.Writing.{AppendsFewer}
use Rattle.sdh_retime_cli.specs.declared.status.Status.TheVariants as status
use Rattle.sdh_shell.specs.Calls.{words_of}
use Rattle.sdh_shell.specs.Failing.{Counts}
use Rattle.sdh_retime_cli.specs.Front.{TellsFront, WritesFront}
use Rattle.sdh_retime_cli.specs.Outcome.{IsOutcome, MayEnd, HasRun, RetimingWrites}
use Rattle.sdh_shell.proofs.Told.{told_all}
use Rattle.sdh_retime_cli.proofs.Endings.{whole, cause_of, usage_is, came_without}
use Rattle.sdh_retime_cli.proofs.top.answer.Goals as goal

pub returns-in-Ok-write_text-clause-outcome : goal.returns-in-Ok-write_text-clause-outcome
returns-in-Ok-write_text-clause-outcome g c =
    let words = words_of c.args.words.now in
    let r = c.in-Ok.outcome in
    let reads : Counts = record { before = g.R.Source.faults c.args.source.now; after = g.R.Source.faults c.outcome_of.new.source } in
    let old = g.W.Sink.written c.args.sink.now in
    let new = g.W.Sink.written c.write_text.new.sink in
    let written = subst (λ (text : List ℕ). Appends old new text) c.bytes.ensures c.in-Ok-write_text.ensures.ok in
    told_all (g.R.Source.left c.args.source.now) (λ (bytes : List ℕ). IsOutcome words bytes r.status r.text.bytes)
    (λ (bytes : List ℕ). RetimingWrites words bytes reads r.status old new)
    (λ bytes h. whole words bytes reads r.status r.text.bytes old new (h, cause_of reads r.status c.in-Ok.ensures.fault) written)
    c.in-Ok.ensures.outcome

pub returns-in-Ok-write_text-clause-usage_text : goal.returns-in-Ok-write_text-clause-usage_text
returns-in-Ok-write_text-clause-usage_text g c = λ other. (
    let words = words_of c.args.words.now in
    let r = c.in-Ok.outcome in
    let reads : Counts = record { before = g.R.Source.faults c.args.source.now; after = g.R.Source.faults c.outcome_of.new.source } in
    let old = g.W.Sink.written c.args.sink.now in
    let new = g.W.Sink.written c.write_text.new.sink in
    let written = subst (λ (text : List ℕ). Appends old new text) c.bytes.ensures c.in-Ok-write_text.ensures.ok in
    let is = c.in-Ok.ensures.usage.1 other in
    whole words [] reads r.status r.text.bytes old new
    (usage_is words r.status r.text.bytes other is (c.in-Ok.ensures.usage_text is), cause_of reads r.status c.in-Ok.ensures.fault) written)

pub returns-in-Ok-write_text-clause-unsteady : goal.returns-in-Ok-write_text-clause-unsteady
returns-in-Ok-write_text-clause-unsteady g c = λ turn is. (
    let old = g.W.Sink.written c.args.sink.now in
    let new = g.W.Sink.written c.write_text.new.sink in
    let written = subst (λ (text : List ℕ). Appends old new text) c.bytes.ensures c.in-Ok-write_text.ensures.ok in
    (c.in-Ok.outcome.text.bytes, c.in-Ok.ensures.unsteady turn is, written))

pub returns-in-Ok-write_text-clause-front : goal.returns-in-Ok-write_text-clause-front
returns-in-Ok-write_text-clause-front g c = λ ran. (
    let r = c.in-Ok.outcome in
    let old = g.W.Sink.written c.args.sink.now in
    let new = g.W.Sink.written c.write_text.new.sink in
    let written = subst (λ (text : List ℕ). Appends old new text) c.bytes.ensures c.in-Ok-write_text.ensures.ok in
    told_all (g.R.Source.left c.args.source.now) (λ (bytes : List ℕ). HasRun r.status → TellsFront bytes r.text.bytes)
    (λ (bytes : List ℕ). WritesFront bytes old new) (λ bytes h. (r.text.bytes, h ran, written)) c.in-Ok.ensures.front)

pub returns-clause-outcome : goal.returns-clause-outcome
returns-clause-outcome g c =
    let words = words_of c.args.words.now in
    let r = c.in-Ok.outcome in
    let reads : Counts = record { before = g.R.Source.faults c.args.source.now; after = g.R.Source.faults c.outcome_of.new.source } in
    let old = g.W.Sink.written c.args.sink.now in
    let new = g.W.Sink.written c.write_text.new.sink in
    let written = subst (λ (text : List ℕ). AppendsFewer old new text) c.bytes.ensures c.in-Err.ensures.front in
    told_all (g.R.Source.left c.args.source.now) (λ (bytes : List ℕ). IsOutcome words bytes r.status r.text.bytes)
    (λ (bytes : List ℕ). RetimingWrites words bytes reads status.WriteFault old new)
    (λ bytes h. (r.status, r.text.bytes, (h, cause_of reads r.status c.in-Ok.ensures.fault), written)) c.in-Ok.ensures.outcome

pub returns-clause-usage_text : goal.returns-clause-usage_text
returns-clause-usage_text g c = λ other. (
    let words = words_of c.args.words.now in
    let r = c.in-Ok.outcome in
    let reads : Counts = record { before = g.R.Source.faults c.args.source.now; after = g.R.Source.faults c.outcome_of.new.source } in
    let old = g.W.Sink.written c.args.sink.now in
    let new = g.W.Sink.written c.write_text.new.sink in
    let written = subst (λ (text : List ℕ). AppendsFewer old new text) c.bytes.ensures c.in-Err.ensures.front in
    let is = c.in-Ok.ensures.usage.1 other in (
      r.status,
      r.text.bytes,
      (
        usage_is words r.status r.text.bytes other is (c.in-Ok.ensures.usage_text is),
        cause_of reads r.status c.in-Ok.ensures.fault,
      ),
      written,
    ))

pub returns-in_default-clause-came : goal.returns-in_default-clause-came
returns-in_default-clause-came g c =
    (status.Memory, inl refl, came_without _ _ _ _ _ c.in_default.ensures.without c.in_default.ensures.few, inr (refl, refl))

pub returns-in-Ok-write_text-clause-came : goal.returns-in-Ok-write_text-clause-came
returns-in-Ok-write_text-clause-came g c =
    let words = words_of c.args.words.now in
    let r = c.in-Ok.outcome in
    let reads : Counts = record { before = g.R.Source.faults c.args.source.now; after = g.R.Source.faults c.outcome_of.new.source } in
    let old = g.W.Sink.written c.args.sink.now in
    let new = g.W.Sink.written c.write_text.new.sink in
    let written = subst (λ (text : List ℕ). Appends old new text) c.bytes.ensures c.in-Ok-write_text.ensures.ok in
    let may = told_all (g.R.Source.left c.args.source.now) (λ (bytes : List ℕ). IsOutcome words bytes r.status r.text.bytes)
    (λ (bytes : List ℕ). MayEnd words bytes reads r.status r.text.bytes)
    (λ bytes h. (h, cause_of reads r.status c.in-Ok.ensures.fault)) c.in-Ok.ensures.outcome in
    (r.status, inl refl, record { counted = c.in-Ok.ensures.reads; taken = c.in-Ok.ensures.taken }, inl (r.text.bytes, may, inl (refl, written)))

pub returns-clause-came : goal.returns-clause-came
returns-clause-came g c =
    let words = words_of c.args.words.now in
    let r = c.in-Ok.outcome in
    let reads : Counts = record { before = g.R.Source.faults c.args.source.now; after = g.R.Source.faults c.outcome_of.new.source } in
    let old = g.W.Sink.written c.args.sink.now in
    let new = g.W.Sink.written c.write_text.new.sink in
    let written = subst (λ (text : List ℕ). AppendsFewer old new text) c.bytes.ensures c.in-Err.ensures.front in
    let may = told_all (g.R.Source.left c.args.source.now) (λ (bytes : List ℕ). IsOutcome words bytes r.status r.text.bytes)
    (λ (bytes : List ℕ). MayEnd words bytes reads r.status r.text.bytes)
    (λ bytes h. (h, cause_of reads r.status c.in-Ok.ensures.fault)) c.in-Ok.ensures.outcome in
    (r.status, inr refl, record { counted = c.in-Ok.ensures.reads; taken = c.in-Ok.ensures.taken }, inl (r.text.bytes, may, inr (refl, written)))
