use Rattle.std.proofs.Common.{ℕ, sym, subst, ◌∙◌, arith, [], ◌∷◌, ◌+◌}
use Rattle.sdh_rounds.specs.Held.{world}
use Rattle.sdh_plan.specs.declared.step.Step.{Step}
use Rattle.sdh_plan.specs.declared.step.Step.TheVariants as step
use Rattle.sdh_status.specs.declared.Status.{Status}
use Rattle.sdh_scripts.specs.Texts.{room_for, Went, StopsAt}
use Rattle.sdh_scripts.proofs.Texts.{room_now, room_next, room_line, settled_went, changed_went, error_stops}
use Rattle.sdh_scripts.proofs.script.run_step.Goals as goal

pub settle-requires-clause-room : goal.settle-requires-clause-room
settle-requires-clause-room g c =
    let means = g.P.Plant.fibres in
    let t = g.R.Teller in
    let later = c.requires.may.0 in
    let each = t.room c.args.runner.now in
    let may = subst (λ (s : Step). t.MayRun c.args.number (s ∷ later) c.args.runner.now (means c.args.plant.now)) c.in-Settle.is c.requires.may.1 in
    let few = g.met.R.Teller.few c.args.number later c.args.runner.now (means c.args.plant.now) may in
    g.met.O.Output.fewer each (room_for each c.args.number) c.args.output.now
    (room_now each c.args.number (room_for each c.args.number) few (omega arith)) c.requires.room

pub change-requires-clause-may : goal.change-requires-clause-may
change-requires-clause-may g c = (c.args.number, c.requires.may.0, c.requires.may.1)

pub returns-in-Ok-clause-ok : goal.returns-in-Ok-clause-ok
returns-in-Ok-clause-ok g c =
    let means = g.P.Plant.fibres in
    let t = g.R.Teller in
    let w = world (t.ring c.args.runner.now) (means c.args.plant.now) in
    let left = world (t.ring c.settle.new.self) (means c.settle.new.plant) in
    let old = g.O.Output.written c.args.output.now in
    let new = g.O.Output.written c.settle.new.output in
    subst (λ (s : Step). Went t.walk c.args.limit (t.text_of c.args.runner.now) c.args.number (s ∷ []) w old new (c.args.number + 1) left)
    (sym c.in-Settle.is)
    (settled_went t.walk c.args.limit (t.text_of c.args.runner.now) c.args.number w left old new c.in-Ok.ensures.ok)

pub returns-in-Ok-clause-room : goal.returns-in-Ok-clause-room
returns-in-Ok-clause-room g c =
    let means = g.P.Plant.fibres in
    let t = g.R.Teller in
    let later = c.requires.may.0 in
    let each = t.room c.args.runner.now in
    let may = subst (λ (s : Step). t.MayRun c.args.number (s ∷ later) c.args.runner.now (means c.args.plant.now)) c.in-Settle.is c.requires.may.1 in
    let few = g.met.R.Teller.few c.args.number later c.args.runner.now (means c.args.plant.now) may in
    c.settle.ensures.room (room_for each (c.args.number + 1))
    (subst (λ (k : ℕ). g.O.Output.Takes k c.args.output.now) (sym (room_next each c.args.number few)) c.requires.room)

pub returns-in-Err-clause-stops : goal.returns-in-Err-clause-stops
returns-in-Err-clause-stops g c other =
    let means = g.P.Plant.fibres in
    let t = g.R.Teller in
    let w = world (t.ring c.args.runner.now) (means c.args.plant.now) in
    let left = world (t.ring c.settle.new.self) (means c.settle.new.plant) in
    let old = g.O.Output.written c.args.output.now in
    let new = g.O.Output.written c.settle.new.output in
    let begun_of = t.begun_of c.args.runner.now in
    let limit = c.args.limit in
    let number = c.args.number in
    subst (λ (s : Step). StopsAt t.walk limit begun_of number s w old new c.ended_by.result left) (sym c.in-Settle.is)
    (subst (λ (end : Status). StopsAt t.walk limit begun_of number step.Settle w old new end left) (sym c.ended_by.ensures)
    (error_stops t.walk limit (t.text_of c.args.runner.now) begun_of c.in-Err.why number w left old new c.in-Err.ensures.err
    c.in-Err.ensures.begun (λ e. other (c.ended_by.ensures ∙ e))))

pub returns-in-Ok-change-clause-ok : goal.returns-in-Ok-change-clause-ok
returns-in-Ok-change-clause-ok g c =
    let means = g.P.Plant.fibres in
    let t = g.R.Teller in
    let w = world (t.ring c.args.runner.now) (means c.args.plant.now) in
    let left = world (t.ring c.change.new.self) (means c.change.new.plant) in
    changed_went t.walk c.args.limit (t.text_of c.args.runner.now) c.args.step c.args.number w left
    (g.O.Output.written c.args.output.now) c.in_default.not-Settle c.in-Ok-change.ensures.ok

pub returns-in-Ok-change-clause-line_room : goal.returns-in-Ok-change-clause-line_room
returns-in-Ok-change-clause-line_room g c =
    let each = g.R.Teller.room c.args.runner.now in
    g.met.O.Output.fewer 96 (room_for each c.args.number) c.args.output.now (room_line each c.args.number) c.requires.room
