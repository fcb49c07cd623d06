use Rattle.std.proofs.Common.{ap}
use Rattle.sdh_shell.specs.Calls.{words_of}
use Rattle.sdh_shell.specs.Failing.{Counts}
use Rattle.sdh_shell.specs.Kept.{seen_around}
use Rattle.sdh_programs.specs.Calls.{AsItComes, seen_of}
use Rattle.sdh_programs.proofs.Calls.{answer_tells, memory_tells}
use Rattle.sdh_programs.proofs.Kept.{kept_answer, kept_memory}
use Rattle.sdh_programs.proofs.calling.call_over.Goals as goal

-- each clause for Ok is a lemma about `answer`
pub returns-in-Ok-clause-outcome : goal.returns-in-Ok-clause-outcome
returns-in-Ok-clause-outcome g c =
    let m = g.M.Program in
    let seen = seen_of (seen_around g.R.Source.faults g.R.Source.exact g.R.Source.left c.args.source.now c.answer.new.source)
    (seen_around g.P.Plant.faults g.P.Plant.exact g.P.Plant.fibres c.args.plant.now c.answer.new.plant) in
    answer_tells m.program (m.program.asked (words_of c.args.words.now)) seen c.in-Ok.ending (g.W.Sink.written c.args.sink.now)
    (g.W.Sink.written c.answer.new.output) m.cut c.in-Ok.ensures.answer

pub returns-in-Ok-clause-kept : goal.returns-in-Ok-clause-kept
returns-in-Ok-clause-kept g c =
    let m = g.M.Program in
    let e = c.in-Ok.ensures in
    kept_answer m.program (AsItComes m.cut) (m.program.asked (words_of c.args.words.now))
    (seen_around g.R.Source.faults g.R.Source.exact g.R.Source.left c.args.source.now c.answer.new.source)
    (seen_around g.W.Sink.faults g.W.Sink.exact g.W.Sink.written c.args.sink.now c.answer.new.output)
    (seen_around g.P.Plant.faults g.P.Plant.exact g.P.Plant.fibres c.args.plant.now c.answer.new.plant) c.in-Ok.ending
    e.answer e.fault e.writes e.unread e.alone e.later.0 e.later.1 e.later.2

-- The clauses for out of memory follow from those of `answer` for an error. A sink that is kept in no memory is as it was.
pub returns-in-Err-clause-outcome : goal.returns-in-Err-clause-outcome
returns-in-Err-clause-outcome g c =
    let m = g.M.Program in
    let reads : Counts = record { before = g.R.Source.faults c.args.source.now; after = g.R.Source.faults c.answer.new.source } in
    let calls : Counts = record { before = g.P.Plant.faults c.args.plant.now; after = g.P.Plant.faults c.answer.new.plant } in
    let left = c.requires.same _ _ c.in-Err.ensures.unwritten in
    memory_tells m.program (AsItComes m.cut) (m.program.asked (words_of c.args.words.now)) (g.R.Source.left c.args.source.now)
    (g.P.Plant.fibres c.args.plant.now) (g.P.Plant.fibres c.answer.new.plant) reads calls c.ending_of.result
    (g.W.Sink.written c.args.sink.now) (g.W.Sink.written c.answer.new.output) c.ending_of.ensures (ap g.W.Sink.written left)

pub returns-in-Err-clause-kept : goal.returns-in-Err-clause-kept
returns-in-Err-clause-kept g c =
    let m = g.M.Program in
    let e = c.in-Err.ensures in
    kept_memory m.program (AsItComes m.cut) (m.program.asked (words_of c.args.words.now))
    (seen_around g.R.Source.faults g.R.Source.exact g.R.Source.left c.args.source.now c.answer.new.source)
    (seen_around g.W.Sink.faults g.W.Sink.exact g.W.Sink.written c.args.sink.now c.answer.new.output)
    (seen_around g.P.Plant.faults g.P.Plant.exact g.P.Plant.fibres c.args.plant.now c.answer.new.plant) c.ending_of.result
    c.ending_of.ensures (c.requires.same _ _ e.unwritten) e.few e.without.0 e.without.1 e.unsent e.unread e.alone e.later.0 e.later.1 e.later.2
