use Rattle.std.proofs.Common.{List, ℕ, sym, inl, inr, ◌∙◌}
use Rattle.sdh_shell.specs.Calls.{words_of}
use Rattle.sdh_shell.specs.Failing.{Counts}
use Rattle.sdh_retime_cli.specs.Outcome.{Answers, RetimingWrites}
use Rattle.sdh_shell.proofs.Told.{told_all}
use Rattle.sdh_retime_cli.proofs.Numbers.{is_drift, has_run}
use Rattle.sdh_retime_cli.proofs.top.retime.Goals as goal

pub returns-clause-outcome : goal.returns-clause-outcome
returns-clause-outcome g c =
    let words = words_of c.args.words.now in
    let reads : Counts = record { before = g.R.Source.faults c.args.source.now; after = g.R.Source.faults c.answer.new.source } in
    let old = g.W.Sink.written c.args.sink.now in
    let new = g.W.Sink.written c.answer.new.sink in
    told_all (g.R.Source.left c.args.source.now) (λ (bytes : List ℕ). RetimingWrites words bytes reads c.answer.result old new)
    (λ (bytes : List ℕ). Answers words bytes reads c.number.result old new)
    (λ bytes h. record { status = c.answer.result; numbered = c.number.ensures; writes = h }) c.answer.ensures.outcome

pub returns-clause-usage_text : goal.returns-clause-usage_text
returns-clause-usage_text g c = λ other.
    record { status = c.answer.result; numbered = c.number.ensures; writes = c.answer.ensures.usage_text other }

pub returns-clause-front : goal.returns-clause-front
returns-clause-front g c = λ e.
    c.answer.ensures.front (has_run c.answer.result
    (elim e [ inl is ↦ inl (sym c.number.ensures ∙ is) | inr is ↦ inr (sym c.number.ensures ∙ is) ]))

pub returns-clause-unsteady : goal.returns-clause-unsteady
returns-clause-unsteady g c = λ e.
    let d = is_drift c.answer.result (sym c.number.ensures ∙ e) in (d.0, c.answer.ensures.unsteady d.0 d.1)

pub returns-clause-kept : goal.returns-clause-kept
returns-clause-kept g c =
    let e = c.answer.ensures in (
      c.answer.result,
      c.number.ensures,
      record {
        how = e.came.0;
        ended = e.came.1;
        says = e.came.3;
        came = e.came.2;
        usage = e.usage;
        usage_only = e.usage_only;
        unread = e.alone;
        read_fault = e.read_fault;
        write_fault = e.write_fault;
        writes = e.writes;
        memory = e.memory;
        read_whole = λ done read. e.read_whole done;
        later = e.later;
        complete = λ given reads written. e.complete given.0 given.1 reads written;
      },
    )
