use Rattle.std.proofs.Common.{◌≤◌, refl, ap, sym, subst, ◌∙◌, arith}
use Rattle.std.specs.Prelude.{option_map}
use Rattle.std.proofs.lemmas.Result.{IfOk-weaker}
use Rattle.sdh_report.specs.Written.{Written}
use Rattle.sdh_status.specs.declared.Status.{Status}
use Rattle.sdh_status.specs.declared.Status.TheVariants as status
use Rattle.sdh_shell.specs.Writing.{WroteEnding, telling_of}
use Rattle.sdh_shell.specs.Failing.{plan_max}
use Rattle.sdh_shell.proofs.Failing.{not_err, counted_as, none_taken, taken_as}
use Rattle.sdh_programs.specs.Calls.{Seen}
use Rattle.sdh_programs.proofs.Calls.{usage_answer, asked_answer, why_is, is_why}
use Rattle.sdh_programs.proofs.Sources.{carried_answer, unread_answer, none_as, none_whole, with_error}
use Rattle.sdh_programs.proofs.answering.answer.Goals as goal

-- the words ask for nothing
pub returns-in_default-clause-answer : goal.returns-in_default-clause-answer
returns-in_default-clause-answer g c =
    let m = g.M.Program in
    let seen : Seen = record {
      reads = record { before = g.R.Source.faults c.args.source.now; after = g.R.Source.faults c.args.source.now };
      calls = record { before = g.P.Plant.faults c.args.plant.now; after = g.P.Plant.faults c.args.plant.now };
      reads_exact = g.R.Source.exact;
      calls_exact = g.P.Plant.exact;
      source = g.R.Source.left c.args.source.now;
      source_left = g.R.Source.left c.args.source.now;
      fibres = g.P.Plant.fibres c.args.plant.now;
      fibres_left = g.P.Plant.fibres c.args.plant.now;
    } in
    let end = c.answer_usage.result in
    let old = g.O.Output.written c.args.output.now in
    let new = g.O.Output.written c.answer_usage.new.output in
    asked_answer m.program m.cut _ _ seen end old new (ap (option_map m.ask_of) (sym c.in_default.is) ∙ c.asked.ensures)
    (usage_answer m.program m.cut seen end old new refl (λ e. refl) (λ e. refl) (none_taken plan_max seen.source) c.answer_usage.ensures.wrote)

-- what is asked was done with a plan
pub returns-in-Ok-clause-answer : goal.returns-in-Ok-clause-answer
returns-in-Ok-clause-answer g c =
    let m = g.M.Program in
    let seen : Seen = record {
      reads = record { before = g.R.Source.faults c.args.source.now; after = g.R.Source.faults c.plan_for.new.source };
      calls = record { before = g.P.Plant.faults c.args.plant.now; after = g.P.Plant.faults c.carry_out.new.plant };
      reads_exact = g.R.Source.exact;
      calls_exact = g.P.Plant.exact;
      source = g.R.Source.left c.args.source.now;
      source_left = g.R.Source.left c.plan_for.new.source;
      fibres = g.P.Plant.fibres c.args.plant.now;
      fibres_left = g.P.Plant.fibres c.carry_out.new.plant;
    } in
    let old = g.O.Output.written c.args.output.now in
    let new = g.O.Output.written c.carry_out.new.output in
    let is = ap (option_map m.ask_of) (sym c.in-Some.is) ∙ c.asked.ensures in
    IfOk-weaker c.carry_out.result _ _ (λ end x. asked_answer m.program m.cut _ _ seen end old new is (carried_answer m.program m.cut (m.ask_of c.in-Some.asked)
    seen end old new c.in-Ok.plan (λ exact. c.plan_for.ensures.counted.none exact (λ e. not_err _ _ (sym c.in-Ok.is ∙ e)))
    (c.plan_for.ensures.taken.within (λ e. not_err _ _ (sym c.in-Ok.is ∙ e))) c.in-Ok.ensures.plan x))
    c.carry_out.ensures.goes

-- with a plan no more bytes were taken than are accepted
pub returns-in-Ok-clause-few : goal.returns-in-Ok-clause-few
returns-in-Ok-clause-few g c = with_error c.carry_out.result (c.plan_for.ensures.taken.within (λ e. not_err _ _ (sym c.in-Ok.is ∙ e)))

-- the line of a refusal is all of its text
pub answer_line-requires : goal.answer_line-requires
answer_line-requires g c k =
    let refused = c.in-Err-Refused in
    let empty = c.in_ok-line.ensures in
    let whole =
    ap telling_of refused.how-is
    ∙ none_whole _ _ _ _ _ refused.how (none_as _ _ _ _ _ refused.field-0 refused.how refused.field-0-is refused.ensures.none) in
    let room : 96 ≤ c.in_ok-line.line.room = omega (arith, ap (λ (t : Written). t.room) empty) in
    ((refl, tt), (room, (ap (λ (t : Written). t.bytes) empty, (c.requires.room, whole))))

-- the source has no plan
pub returns-in-Err-Refused-clause-answer : goal.returns-in-Err-Refused-clause-answer
returns-in-Err-Refused-clause-answer g c =
    let m = g.M.Program in
    let refused = c.in-Err-Refused in
    let seen : Seen = record {
      reads = record { before = g.R.Source.faults c.args.source.now; after = g.R.Source.faults c.plan_for.new.source };
      calls = record { before = g.P.Plant.faults c.args.plant.now; after = g.P.Plant.faults c.args.plant.now };
      reads_exact = g.R.Source.exact;
      calls_exact = g.P.Plant.exact;
      source = g.R.Source.left c.args.source.now;
      source_left = g.R.Source.left c.plan_for.new.source;
      fibres = g.P.Plant.fibres c.args.plant.now;
      fibres_left = g.P.Plant.fibres c.args.plant.now;
    } in
    let old = g.O.Output.written c.args.output.now in
    let new = g.O.Output.written c.answer_line.new.output in
    let is = ap (option_map m.ask_of) (sym c.in-Some.is) ∙ c.asked.ensures in
    let why = refused.field-0 in
    asked_answer m.program m.cut _ _ seen c.answer_line.result old new is (unread_answer m.program m.cut (m.ask_of c.in-Some.asked) seen
    c.answer_line.result old new refused.how refl (λ e. refl) (none_as _ _ _ _ _ why refused.how refused.field-0-is refused.ensures.none)
    (counted_as seen.reads_exact seen.reads.before seen.reads.after (why_is why refused.how refused.field-0-is status.ReadFault)
    (is_why why refused.how refused.field-0-is status.ReadFault) refused.ensures.counted)
    (taken_as plan_max seen.source seen.source_left (why_is why refused.how refused.field-0-is status.TooLong)
    (is_why why refused.how refused.field-0-is status.TooLong) refused.ensures.taken)
    (subst (λ (s : Status). WroteEnding m.program.endings (m.program.endings.of s) (m.program.endings.line (m.program.endings.of s))
    c.answer_line.result old new) refused.how-is c.answer_line.ensures.wrote))
