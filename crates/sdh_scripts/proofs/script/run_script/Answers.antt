use Rattle.std.proofs.Common.{◌<◌, Err, [], ◌∷◌, length, take, drop, get_or, ◌+◌, ◌∙◌, ap, refl, sym, subst, arith, rules}
use Rattle.std.proofs.lemmas.List.{take_more}
use Rattle.sdh_ringmap.specs.declared.Side.TheVariants.{West}
use Rattle.sdh_ringmap.specs.declared.terms.Condition.TheVariants.{Clear}
use Rattle.sdh_rounds.specs.Held.{world}
use Rattle.sdh_plan.specs.declared.step.Step.{Step}
use Rattle.sdh_plan.specs.declared.step.Step.TheVariants.{Fibre}
use Rattle.sdh_scripts.specs.Texts.{room_for, Went, StopsAt, FailsAt}
use Rattle.sdh_scripts.proofs.Texts.{here, room_line, went_none, went_more, went_all, went_stop, went_fail}
use Rattle.sdh_scripts.proofs.script.run_script.Goals as goal

-- what is read past the end of a script
abbrev nothing : Step
nothing = Fibre (record { at = record { 0 = 0 }; side = West; condition = Clear })

pub steps-init : goal.steps-init
steps-init g c =
    let means = g.P.Plant.fibres in
    let t = g.R.Teller in
    record {
      went =
          went_none t.walk c.args.limit (t.text_of c.args.runner.now) (world (t.ring c.args.runner.now) (means c.args.plant.now))
          (g.O.Output.written c.args.output.now);
      may = c.requires.may;
      room = c.requires.room;
      same_room = refl;
      writes = refl;
      begins = refl;
      later = omega arith;
      none = λ e. refl;
      later_writes = omega arith;
      none_writes = λ e. refl;
    }

pub run_step-requires-clause-may : goal.run_step-requires-clause-may
run_step-requires-clause-may g c =
    let means = g.P.Plant.fibres in
    let i = c.steps.step-index in
    let steps = c.args.steps.now in
    let is = here steps i nothing (omega arith) in
    (drop (i + 1) steps, subst (λ l. g.R.Teller.MayRun c.steps.number l c.steps.runner (means c.steps.plant)) is c.steps.invariant.may)

pub run_step-requires-clause-room : goal.run_step-requires-clause-room
run_step-requires-clause-room g c =
    subst (λ each. g.O.Output.Takes (room_for each c.steps.number) c.steps.output) (sym c.steps.invariant.same_room) c.steps.invariant.room

pub steps-preserved : goal.steps-preserved
steps-preserved g c =
    let means = g.P.Plant.fibres in
    let t = g.R.Teller in
    let written = g.O.Output.written in
    let i = c.steps.step-index in
    let inv = c.steps.invariant in
    let steps = c.args.steps.now in
    let limit = c.args.limit in
    let lt : i < length steps = omega arith in
    let is = here steps i nothing lt in
    let w = world (t.ring c.args.runner.now) (means c.args.plant.now) in
    let mid = world (t.ring c.steps.runner) (means c.steps.plant) in
    let left = world (t.ring c.run_step.new.runner) (means c.run_step.new.plant) in
    let this = get_or steps i nothing in
    let text_of = t.text_of c.args.runner.now in
    let old = written c.args.output.now in
    let text = written c.steps.output in
    let new = written c.run_step.new.output in
    record {
      went =
          subst (λ l. Went t.walk limit text_of 0 l w old new c.in-Ok.ended left) (sym (take_more steps i nothing lt))
          (went_more t.walk limit text_of (take i steps) (this ∷ []) c.steps.number c.in-Ok.ended w mid left old text new inv.went
          (subst (λ f. Went t.walk limit f c.steps.number (this ∷ []) mid text new c.in-Ok.ended left) inv.writes c.in-Ok.ensures.ok));
      may =
          c.in-Ok.ensures.next (drop (i + 1) steps)
          (subst (λ l. t.MayRun c.steps.number l c.steps.runner (means c.steps.plant)) is inv.may);
      room = subst (λ each. g.O.Output.Takes (room_for each c.in-Ok.ended) c.run_step.new.output) inv.same_room c.in-Ok.ensures.room;
      same_room = c.in-Ok.ensures.same_room ∙ inv.same_room;
      writes = c.in-Ok.ensures.writes ∙ inv.writes;
      begins = c.in-Ok.ensures.begins ∙ inv.begins;
      later = omega (arith, inv.later, c.run_step.ensures.later);
      none = search rules;
      later_writes = omega (arith, inv.later_writes, c.run_step.ensures.later_writes);
      none_writes = search rules;
    }

pub returns-in-Err-clause-ran : goal.returns-in-Err-clause-ran
returns-in-Err-clause-ran g c other =
    let means = g.P.Plant.fibres in
    let t = g.R.Teller in
    let written = g.O.Output.written in
    let i = c.steps.step-index in
    let inv = c.steps.invariant in
    let steps = c.args.steps.now in
    let limit = c.args.limit in
    let lt : i < length steps = omega arith in
    let mid = world (t.ring c.steps.runner) (means c.steps.plant) in
    let left = world (t.ring c.run_step.new.runner) (means c.run_step.new.plant) in
    let this = get_or steps i nothing in
    went_stop t.walk limit (t.text_of c.args.runner.now) (t.begun_of c.args.runner.now) i steps this (here steps i nothing lt) c.steps.number
    _ mid left (written c.args.output.now) (written c.steps.output) (written c.run_step.new.output) c.in-Err.how inv.went
    (subst (λ f. StopsAt t.walk limit f c.steps.number this mid (written c.steps.output)
    (written c.run_step.new.output) c.in-Err.how left) inv.begins (c.in-Err.ensures.stops other))

pub returns-in-Err-clause-fails : goal.returns-in-Err-clause-fails
returns-in-Err-clause-fails g c is_fault =
    let means = g.P.Plant.fibres in
    let t = g.R.Teller in
    let written = g.O.Output.written in
    let i = c.steps.step-index in
    let inv = c.steps.invariant in
    let steps = c.args.steps.now in
    let limit = c.args.limit in
    let lt : i < length steps = omega arith in
    let mid = world (t.ring c.steps.runner) (means c.steps.plant) in
    let left = world (t.ring c.run_step.new.runner) (means c.run_step.new.plant) in
    let this = get_or steps i nothing in
    let text = written c.steps.output in
    let new = written c.run_step.new.output in
    went_fail t.walk limit (t.text_of c.args.runner.now) (t.begun_of c.args.runner.now) i steps this (here steps i nothing lt) c.steps.number
    _ mid left (written c.args.output.now) text new inv.went
    (subst (λ f. FailsAt t.walk limit (t.text_of c.args.runner.now) f c.steps.number this mid text new left) inv.begins
    (subst (λ f. FailsAt t.walk limit f (t.begun_of c.steps.runner) c.steps.number this mid text new left) inv.writes
    (c.run_step.ensures.fails (c.in-Err.is ∙ ap Err is_fault))))

pub returns-clause-ran : goal.returns-clause-ran
returns-clause-ran g c other =
    let t = g.R.Teller in
    let written = g.O.Output.written in
    let steps = c.args.steps.now in
    let i = c.steps.step-index in
    went_all t.walk c.args.limit (t.text_of c.args.runner.now) (t.begun_of c.args.runner.now) i steps c.steps.number _ _
    (written c.args.output.now) (written c.steps.output) (omega arith) c.steps.invariant.went

pub returns-clause-room : goal.returns-clause-room
returns-clause-room g c =
    let each = g.R.Teller.room c.args.runner.now in
    g.met.O.Output.fewer 96 (room_for each c.steps.number) c.steps.output (room_line each c.steps.number) c.steps.invariant.room
