use Rattle.std.proofs.Common.{List, subst, sym, arith}
use Rattle.sdh_rounds.specs.Held.{World, world}
use Rattle.sdh_plan.specs.declared.step.Step.{Step}
use Rattle.sdh_scripts.specs.Texts.{room_for, Lists, WriteFailed}
use Rattle.sdh_scripts.specs.Outcomes.{with_fibres}
use Rattle.sdh_scripts.proofs.Plans.{wrote_none, wrote_ran, laid_over}
use Rattle.sdh_scripts.proofs.run.run_over.Goals as goal

pub prepare-requires-clause-enough : goal.prepare-requires-clause-enough
prepare-requires-clause-enough g c = c.requires.ready.enough

pub prepare-requires-clause-few : goal.prepare-requires-clause-few
prepare-requires-clause-few g c = c.requires.ready.few

pub run_script-requires-clause-may : goal.run_script-requires-clause-may
run_script-requires-clause-may g c =
    let runner = c.args.runner.now in
    let steps = c.args.script.steps.items in
    subst (λ (l : List Step). g.R.Teller.MayRun 0 l runner (g.P.Plant.fibres c.prepare.new.self)) (sym c.deref.ensures.value)
    (subst (g.R.Teller.MayRun 0 steps runner) (sym c.in-Ok.ensures.ok) (c.requires.ready.may (g.P.Plant.fibres c.args.plant.now)))

pub run_script-requires-clause-some : goal.run_script-requires-clause-some
run_script-requires-clause-some g c = c.requires.ready.limit_from_1

pub run_script-requires-clause-few : goal.run_script-requires-clause-few
run_script-requires-clause-few g c = c.requires.ready.limit_small

-- the fibres are those that were prepared for the ring
pub returns-in-Ok-clause-wrote : goal.returns-in-Ok-clause-wrote
returns-in-Ok-clause-wrote g c other =
    let t = g.R.Teller in
    let means = g.P.Plant.fibres in
    let script = c.args.script in
    let runner = c.args.runner.now in
    let f = means c.args.plant.now in
    let old = g.O.Output.written c.args.output.now in
    let new = g.O.Output.written c.run_script.new.output in
    let last = world (t.ring c.run_script.new.runner) (means c.run_script.new.plant) in
    let laid = laid_over (t.ring runner) script.rate script.nodes f (means c.prepare.new.self) c.requires.ready.rate c.requires.ready.nodes
    c.in-Ok.ensures.ok in
    wrote_ran t.walk script.limit (t.text_of runner) (t.begun_of runner) script.steps.items (with_fibres (t.ring runner) f) f last old new
    c.run_script.result
    (subst (λ (w : World t.Node). Lists t.walk script.limit (t.text_of runner) (t.begun_of runner) script.steps.items w old new
    c.run_script.result last) laid
    (subst (λ (l : List Step). Lists t.walk script.limit (t.text_of runner) (t.begun_of runner) l
    (world (t.ring runner) (means c.prepare.new.self)) old new c.run_script.result last) c.deref.ensures.value
    (c.run_script.ensures.ran other)))

pub returns-in-Ok-clause-breaks : goal.returns-in-Ok-clause-breaks
returns-in-Ok-clause-breaks g c fault =
    let t = g.R.Teller in
    let means = g.P.Plant.fibres in
    let script = c.args.script in
    let runner = c.args.runner.now in
    let f = means c.args.plant.now in
    let old = g.O.Output.written c.args.output.now in
    let new = g.O.Output.written c.run_script.new.output in
    let last = world (t.ring c.run_script.new.runner) (means c.run_script.new.plant) in
    let laid = laid_over (t.ring runner) script.rate script.nodes f (means c.prepare.new.self) c.requires.ready.rate c.requires.ready.nodes
    c.in-Ok.ensures.ok in
    subst (λ (w : World t.Node). WriteFailed t.walk script.limit (t.text_of runner) (t.begun_of runner) script.steps.items w old new last) laid
    (subst (λ (l : List Step). WriteFailed t.walk script.limit (t.text_of runner) (t.begun_of runner) l
    (world (t.ring runner) (means c.prepare.new.self)) old new last) c.deref.ensures.value (c.run_script.ensures.fails fault))

pub returns-clause-wrote : goal.returns-clause-wrote
returns-clause-wrote g c other =
    let t = g.R.Teller in
    let script = c.args.script in
    let runner = c.args.runner.now in
    let f = g.P.Plant.fibres c.args.plant.now in
    wrote_none t.walk script.limit (t.text_of runner) (t.begun_of runner) script.steps.items (with_fibres (t.ring runner) f) f
    (world (t.ring runner) (g.P.Plant.fibres c.prepare.new.self)) (g.O.Output.written c.args.output.now) c.in-Err-Failed.ensures.err

-- room for all settle steps and a last line is room for the line
pub returns-clause-room : goal.returns-clause-room
returns-clause-room g c =
    let each = g.R.Teller.room c.args.runner.now in
    g.met.O.Output.fewer 96 (room_for each 0) c.args.output.now (omega arith) c.requires.room
