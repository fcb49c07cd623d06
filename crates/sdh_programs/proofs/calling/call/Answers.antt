use Rattle.std.proofs.Common.{ap, refl, arith, le_refl}
use Rattle.sdh_report.specs.Written.{Written}
use Rattle.sdh_shell.specs.Calls.{words_of}
use Rattle.sdh_shell.specs.Failing.{Counts, plan_max}
use Rattle.sdh_shell.specs.Kept.{seen_around}
use Rattle.sdh_shell.proofs.Failing.{none_taken}
use Rattle.sdh_programs.specs.Calls.{AtOnce, seen_of}
use Rattle.sdh_programs.proofs.AtEnd.{text_shown_by, text_answer_by}
use Rattle.sdh_programs.proofs.Calls.{answer_writes, memory_writes, fault_as, counted_own}
use Rattle.sdh_programs.proofs.Kept.{kept_answer, kept_memory}
use Rattle.sdh_programs.proofs.calling.call.Goals as goal

-- no write to memory fails, so the answer is the ending and the whole text
pub write_ended-requires-clause-shown : goal.write_ended-requires-clause-shown
write_ended-requires-clause-shown g c =
    let m = g.M.Program in
    let seen = seen_of (seen_around g.R.Source.faults g.R.Source.exact g.R.Source.left c.args.source.now c.answer.new.source)
    (seen_around g.P.Plant.faults g.P.Plant.exact g.P.Plant.fibres c.args.plant.now c.answer.new.plant) in
    text_shown_by m.program m.cut (m.program.asked (words_of c.args.words.now)) seen c.in-Ok-answer.ending c.in-Ok.text.bytes c.answer.new.output.bytes
    (ap (λ (t : Written). t.bytes) c.in-Ok.ensures) (λ e. let rose = c.in-Ok-answer.ensures.fault e in absurd (omega (arith, rose)))
    c.in-Ok-answer.ensures.answer _ c.endings_agree.ensures

pub returns-in-Ok-answer-clause-outcome : goal.returns-in-Ok-answer-clause-outcome
returns-in-Ok-answer-clause-outcome g c =
    let m = g.M.Program in
    let seen = seen_of (seen_around g.R.Source.faults g.R.Source.exact g.R.Source.left c.args.source.now c.answer.new.source)
    (seen_around g.P.Plant.faults g.P.Plant.exact g.P.Plant.fibres c.args.plant.now c.answer.new.plant) in
    let old = g.W.Sink.written c.args.sink.now in
    let new = g.W.Sink.written c.write_ended.new.output in
    let asked = m.program.asked (words_of c.args.words.now) in
    answer_writes m.program asked seen c.write_ended.result old new
    (text_answer_by m.program m.cut asked seen c.in-Ok-answer.ending c.in-Ok.text.bytes c.answer.new.output.bytes
    (ap (λ (t : Written). t.bytes) c.in-Ok.ensures) (λ e. let rose = c.in-Ok-answer.ensures.fault e in absurd (omega (arith, rose)))
    c.in-Ok-answer.ensures.answer _ c.endings_agree.ensures c.write_ended.result old new c.write_ended.ensures.wrote)

pub returns-in-Ok-answer-clause-kept : goal.returns-in-Ok-answer-clause-kept
returns-in-Ok-answer-clause-kept g c =
    let m = g.M.Program in
    let seen = seen_of (seen_around g.R.Source.faults g.R.Source.exact g.R.Source.left c.args.source.now c.answer.new.source)
    (seen_around g.P.Plant.faults g.P.Plant.exact g.P.Plant.fibres c.args.plant.now c.answer.new.plant) in
    let old = g.W.Sink.written c.args.sink.now in
    let new = g.W.Sink.written c.write_ended.new.output in
    let asked = m.program.asked (words_of c.args.words.now) in
    let e = c.in-Ok-answer.ensures in
    kept_answer m.program AtOnce asked (seen_around g.R.Source.faults g.R.Source.exact g.R.Source.left c.args.source.now c.answer.new.source)
    (seen_around g.W.Sink.faults g.W.Sink.exact g.W.Sink.written c.args.sink.now c.write_ended.new.output)
    (seen_around g.P.Plant.faults g.P.Plant.exact g.P.Plant.fibres c.args.plant.now c.answer.new.plant) c.write_ended.result
    (text_answer_by m.program m.cut asked seen c.in-Ok-answer.ending c.in-Ok.text.bytes c.answer.new.output.bytes
    (ap (λ (t : Written). t.bytes) c.in-Ok.ensures) (λ h. let rose = e.fault h in absurd (omega (arith, rose)))
    e.answer _ c.endings_agree.ensures c.write_ended.result old new c.write_ended.ensures.wrote)
    (λ h. c.write_ended.ensures.fault (fault_as m.program.endings _ c.endings_agree.ensures c.write_ended.result h))
    (counted_own m.program.endings _ c.endings_agree.ensures c.write_ended.result _ _ _ c.write_ended.ensures.writes) e.unread e.alone e.later.0
    c.write_ended.ensures.later e.later.2

-- memory ran out before the text had room, or later: nothing was written
pub returns-in_default-clause-outcome : goal.returns-in_default-clause-outcome
returns-in_default-clause-outcome g c =
    let m = g.M.Program in
    let f = g.P.Plant.fibres c.args.plant.now in
    let reads : Counts = record { before = g.R.Source.faults c.args.source.now; after = g.R.Source.faults c.args.source.now } in
    let calls : Counts = record { before = g.P.Plant.faults c.args.plant.now; after = g.P.Plant.faults c.args.plant.now } in
    let written = g.W.Sink.written c.args.sink.now in
    memory_writes m.program (m.program.asked (words_of c.args.words.now)) (g.R.Source.left c.args.source.now) f f reads calls
    c.ending_of.result written written c.ending_of.ensures refl

pub returns-in_default-clause-kept : goal.returns-in_default-clause-kept
returns-in_default-clause-kept g c =
    let m = g.M.Program in
    let source = c.args.source.now in
    let sink = c.args.sink.now in
    let plant = c.args.plant.now in
    kept_memory m.program AtOnce (m.program.asked (words_of c.args.words.now))
    (seen_around g.R.Source.faults g.R.Source.exact g.R.Source.left source source)
    (seen_around g.W.Sink.faults g.W.Sink.exact g.W.Sink.written sink sink)
    (seen_around g.P.Plant.faults g.P.Plant.exact g.P.Plant.fibres plant plant) c.ending_of.result c.ending_of.ensures refl (none_taken plan_max (g.R.Source.left source)) (λ e. refl) (λ e. refl) refl (λ e. refl) (λ e. refl) (le_refl _) (le_refl _)
    (le_refl _)

pub returns-in-Err-clause-outcome : goal.returns-in-Err-clause-outcome
returns-in-Err-clause-outcome g c =
    let m = g.M.Program in
    let reads : Counts = record { before = g.R.Source.faults c.args.source.now; after = g.R.Source.faults c.answer.new.source } in
    let calls : Counts = record { before = g.P.Plant.faults c.args.plant.now; after = g.P.Plant.faults c.answer.new.plant } in
    let written = g.W.Sink.written c.args.sink.now in
    memory_writes m.program (m.program.asked (words_of c.args.words.now)) (g.R.Source.left c.args.source.now)
    (g.P.Plant.fibres c.args.plant.now) (g.P.Plant.fibres c.answer.new.plant) reads calls c.ending_of-in-Err.result written written
    c.ending_of-in-Err.ensures refl

pub returns-in-Err-clause-kept : goal.returns-in-Err-clause-kept
returns-in-Err-clause-kept g c =
    let e = c.in-Err.ensures in
    let m = g.M.Program in
    let sink = c.args.sink.now in
    kept_memory m.program AtOnce (m.program.asked (words_of c.args.words.now))
    (seen_around g.R.Source.faults g.R.Source.exact g.R.Source.left c.args.source.now c.answer.new.source)
    (seen_around g.W.Sink.faults g.W.Sink.exact g.W.Sink.written sink sink)
    (seen_around g.P.Plant.faults g.P.Plant.exact g.P.Plant.fibres c.args.plant.now c.answer.new.plant) c.ending_of-in-Err.result
    c.ending_of-in-Err.ensures refl e.few e.without.0 e.without.1 e.unsent e.unread e.alone e.later.0 (le_refl _)
    e.later.2
