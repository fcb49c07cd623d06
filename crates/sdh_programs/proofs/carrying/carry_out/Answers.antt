use Rattle.std.proofs.Common.{◌≡◌, ℕ, List, [], ◌++◌, refl, ap, sym, subst, ◌∙◌, le_refl, arith}
use Rattle.std.specs.Prelude.{Option}
use Rattle.sdh_basics.specs.Causes.{Rose, IsCounted}
use Rattle.sdh_report.specs.Written.{Written}
use Rattle.sdh_status.specs.declared.Status.TheVariants as status
use Rattle.sdh_shell.specs.Failing.{Counts}
use Rattle.sdh_shell.specs.Writing.{IsShown}
use Rattle.sdh_shell.proofs.Failing.{counted_as}
use Rattle.sdh_programs.specs.Calls.{Goes}
use Rattle.sdh_programs.specs.Deeds.{IsDeed, TakesDeed}
use Rattle.sdh_programs.specs.declared.program.Deed.{Deed as Made}
use Rattle.sdh_programs.specs.Laws.{IsFresh}
use Rattle.sdh_programs.proofs.Calls.{shown_as, wrote_as, wrote_given, fault_as, counted_own}
use Rattle.sdh_programs.proofs.Carried.{short_line, long_line, steps_end, refused_shown, run_shown, counted_last, goes_refused, goes_written, goes_run, goes_cut}
use Rattle.sdh_programs.proofs.carrying.carry_out.Goals as goal

-- ---- the plan is refused

pub write_ended-requires-clause-shown : goal.write_ended-requires-clause-shown
write_ended-requires-clause-shown g c =
    let m = g.M.Program in
    let r = g.M.Run.Teller in
    let is = subst (IsDeed m.program r.ring r.MayRun m.Begins (m.ask_of c.args.asked) c.args.plan) c.in-Refuse.is c.in_ok-deed.ensures.deed in
    subst (IsShown g.M.Ending.Ends.endings) (sym c.ended.ensures.ending) (refused_shown m.program _ c.endings_agree.ensures c.in-Refuse.why is.1)

pub write_ended-requires-clause-room : goal.write_ended-requires-clause-room
write_ended-requires-clause-room g c =
    let o = g.O.Output in
    let takes =
    subst (λ (d : Made _ _ _). TakesDeed o.Takes g.M.Run.Teller.room d c.deed.new.output) c.in-Refuse.is c.in_ok-deed.ensures.room in
    g.met.O.Output.fewer _ 96 c.deed.new.output
    (short_line [] c.ended.result.text.bytes _ refl
    (c.ended.ensures.text ∙ ap (λ (t : Written). t.bytes ++ g.M.Ending.Ends.endings.line c.in-Refuse.why) c.in_ok-line.ensures)
    c.ended.ensures.short) takes

pub returns-in-Refuse-clause-goes : goal.returns-in-Refuse-clause-goes
returns-in-Refuse-clause-goes g c =
    let m = g.M.Program in
    let r = g.M.Run.Teller in
    let is = subst (IsDeed m.program r.ring r.MayRun m.Begins (m.ask_of c.args.asked) c.args.plan) c.in-Refuse.is c.in_ok-deed.ensures.deed in
    let old = g.O.Output.written c.args.output.now in
    let new = g.O.Output.written c.write_ended.new.output in
    goes_refused m.program m.cut (m.ask_of c.args.asked) c.args.plan (g.P.Plant.fibres c.args.plant.now) c.in-Refuse.why is.0 is.1
    g.P.Plant.exact (g.P.Plant.faults c.args.plant.now) c.write_ended.result old new
    (wrote_given m.program.endings _ c.endings_agree.ensures c.in-Refuse.why c.ended.result.ending [] _ c.ended.result.text.bytes
    c.write_ended.result old _ new c.ended.ensures.ending (ap (λ (t : Written). t.bytes) c.in_ok-line.ensures) c.ended.ensures.text
    c.deed.ensures.same.0 c.write_ended.ensures.wrote)

pub returns-in-Refuse-clause-fault : goal.returns-in-Refuse-clause-fault
returns-in-Refuse-clause-fault g c e =
    subst (λ (k : ℕ). Rose k (g.O.Output.faults c.write_ended.new.output)) c.deed.ensures.same.1
    (c.write_ended.ensures.fault (fault_as g.M.Program.program.endings _ c.endings_agree.ensures c.write_ended.result e))

pub returns-in-Refuse-clause-writes : goal.returns-in-Refuse-clause-writes
returns-in-Refuse-clause-writes g c =
    subst (λ (k : ℕ). IsCounted g.O.Output.exact (c.write_ended.result ≡ g.M.Program.program.endings.of status.WriteFault) k
    (g.O.Output.faults c.write_ended.new.output)) c.deed.ensures.same.1
    (counted_own g.M.Program.program.endings _ c.endings_agree.ensures c.write_ended.result _ _ _ c.write_ended.ensures.writes)

pub returns-in-Refuse-clause-later : goal.returns-in-Refuse-clause-later
returns-in-Refuse-clause-later g c = (le_refl _, omega (arith, c.deed.ensures.same.1, c.write_ended.ensures.later))

-- ---- a text is written of it

pub ended-requires-in-Write : goal.ended-requires-in-Write
ended-requires-in-Write g c =
    let takes =
    subst (λ (d : Made _ _ _). TakesDeed g.O.Output.Takes g.M.Run.Teller.room d c.deed.new.output) c.in-Write.is c.in_ok-deed.ensures.room in
    record { room = takes.1 }

pub write_ended-requires-in-Write-clause-shown : goal.write_ended-requires-in-Write-clause-shown
write_ended-requires-in-Write-clause-shown g c =
    shown_as g.M.Program.program.endings _ c.endings_agree.ensures c.ended-in-Write.result.ending status.Ok
    (c.ended-in-Write.ensures.ending ∙ c.ending_of.ensures) refl

pub write_ended-requires-in-Write-clause-room : goal.write_ended-requires-in-Write-clause-room
write_ended-requires-in-Write-clause-room g c =
    let takes =
    subst (λ (d : Made _ _ _). TakesDeed g.O.Output.Takes g.M.Run.Teller.room d c.deed.new.output) c.in-Write.is c.in_ok-deed.ensures.room in
    g.met.O.Output.fewer _ _ c.deed.new.output
    (long_line c.in-Write.text.bytes c.ended-in-Write.result.text.bytes _ c.ended-in-Write.ensures.text c.ended-in-Write.ensures.short) takes.0

pub returns-in-Write-clause-goes : goal.returns-in-Write-clause-goes
returns-in-Write-clause-goes g c =
    let m = g.M.Program in
    let r = g.M.Run.Teller in
    let is = subst (IsDeed m.program r.ring r.MayRun m.Begins (m.ask_of c.args.asked) c.args.plan) c.in-Write.is c.in_ok-deed.ensures.deed in
    let old = g.O.Output.written c.args.output.now in
    let new = g.O.Output.written c.write_ended-in-Write.new.output in
    let told = c.in-Write.text.bytes in
    let how = m.program.endings.of status.Ok in
    goes_written m.program m.cut (m.ask_of c.args.asked) c.args.plan (g.P.Plant.fibres c.args.plant.now) told is
    g.P.Plant.exact (g.P.Plant.faults c.args.plant.now) c.write_ended-in-Write.result old new
    (wrote_given m.program.endings _ c.endings_agree.ensures how c.ended-in-Write.result.ending told told
    c.ended-in-Write.result.text.bytes c.write_ended-in-Write.result old _ new (c.ended-in-Write.ensures.ending ∙ c.ending_of.ensures) refl
    (c.ended-in-Write.ensures.text ∙ ap (λ h. told ++ g.M.Ending.Ends.endings.line h) c.ending_of.ensures) c.deed.ensures.same.0
    c.write_ended-in-Write.ensures.wrote)

pub returns-in-Write-clause-fault : goal.returns-in-Write-clause-fault
returns-in-Write-clause-fault g c e =
    subst (λ (k : ℕ). Rose k (g.O.Output.faults c.write_ended-in-Write.new.output)) c.deed.ensures.same.1
    (c.write_ended-in-Write.ensures.fault (fault_as g.M.Program.program.endings _ c.endings_agree.ensures c.write_ended-in-Write.result e))

pub returns-in-Write-clause-writes : goal.returns-in-Write-clause-writes
returns-in-Write-clause-writes g c =
    subst (λ (k : ℕ). IsCounted g.O.Output.exact (c.write_ended-in-Write.result ≡ g.M.Program.program.endings.of status.WriteFault) k
    (g.O.Output.faults c.write_ended-in-Write.new.output)) c.deed.ensures.same.1
    (counted_own g.M.Program.program.endings _ c.endings_agree.ensures c.write_ended-in-Write.result _ _ _
    c.write_ended-in-Write.ensures.writes)

pub returns-in-Write-clause-later : goal.returns-in-Write-clause-later
returns-in-Write-clause-later g c = (le_refl _, omega (arith, c.deed.ensures.same.1, c.write_ended-in-Write.ensures.later))

-- ---- it is run

pub run_over-requires-clause-ready : goal.run_over-requires-clause-ready
run_over-requires-clause-ready g c =
    let m = g.M.Program in
    let r = g.M.Run.Teller in
    let is = subst (IsDeed m.program r.ring r.MayRun m.Begins (m.ask_of c.args.asked) c.args.plan) c.in-Run.is c.in_ok-deed.ensures.deed in
    is.2

pub run_over-requires-clause-room : goal.run_over-requires-clause-room
run_over-requires-clause-room g c =
    subst (λ (d : Made _ _ _). TakesDeed g.O.Output.Takes g.M.Run.Teller.room d c.deed.new.output) c.in-Run.is c.in_ok-deed.ensures.room

-- ---- memory ran out for the fibres

pub returns-in_err-status-in-Run-clause-alone : goal.returns-in_err-status-in-Run-clause-alone
returns-in_err-status-in-Run-clause-alone g c never =
    let m = g.M.Program in
    let r = g.M.Run.Teller in
    let is = subst (IsDeed m.program r.ring r.MayRun m.Begins (m.ask_of c.args.asked) c.args.plan) c.in-Run.is c.in_ok-deed.ensures.deed in
    absurd (never c.in-Run.listing is.0.does)

pub returns-in_err-status-in-Run-clause-later : goal.returns-in_err-status-in-Run-clause-later
returns-in_err-status-in-Run-clause-later g c =
    (c.run_over.ensures.later.0, omega (arith, c.deed.ensures.same.1, c.run_over.ensures.later.1))

-- ---- a write failed

pub returns-in-WriteFault-clause-goes : goal.returns-in-WriteFault-clause-goes
returns-in-WriteFault-clause-goes g c =
    let m = g.M.Program in
    let means = g.P.Plant.fibres in
    let f = means c.args.plant.now in
    let r = g.M.Run.Teller in
    let is = subst (IsDeed m.program r.ring r.MayRun m.Begins (m.ask_of c.args.asked) c.args.plan) c.in-Run.is c.in_ok-deed.ensures.deed in
    let calls : Counts = record { before = g.P.Plant.faults c.args.plant.now; after = g.P.Plant.faults c.run_over.new.plant } in
    let fresh : IsFresh f = record {
      none = c.requires.fresh;
      honest = λ h. record { honest = h; tells_none = g.met.P.Plant.honest_tells_none c.args.plant.now h };
    } in
    let left = means c.run_over.new.plant in
    let ran = c.in_ok-status-in-Run.ensures in
    let new = g.O.Output.written c.run_over.new.output in
    let end = c.ending_of-in-WriteFault.result in
    subst (λ (o : Option (List ℕ)). Goes m.program m.cut (m.ask_of c.args.asked) c.args.plan f left g.P.Plant.exact calls end o new)
    c.deed.ensures.same.0
    (goes_cut m.program m.cut (m.ask_of c.args.asked) c.args.plan f c.in-Run.listing is.0 g.P.Plant.exact calls left
    c.in_ok-status-in-Run.status end _ new c.in-WriteFault.is c.ending_of-in-WriteFault.ensures
    (c.laws.ensures.cuts c.in-Run.listing c.args.plan c.in-Run.new_run f c.deed.new.output c.run_over.new.output _ is.1 fresh
    (ran.cut c.in-WriteFault.is) (ran.breaks c.in-WriteFault.is)) ran.counted)

pub returns-in-WriteFault-clause-alone : goal.returns-in-WriteFault-clause-alone
returns-in-WriteFault-clause-alone g c never =
    let m = g.M.Program in
    let r = g.M.Run.Teller in
    let is = subst (IsDeed m.program r.ring r.MayRun m.Begins (m.ask_of c.args.asked) c.args.plan) c.in-Run.is c.in_ok-deed.ensures.deed in
    absurd (never c.in-Run.listing is.0.does)

pub returns-in-WriteFault-clause-fault : goal.returns-in-WriteFault-clause-fault
returns-in-WriteFault-clause-fault g c e =
    subst (λ (k : ℕ). Rose k (g.O.Output.faults c.run_over.new.output)) c.deed.ensures.same.1
    (c.in_ok-status-in-Run.ensures.cut c.in-WriteFault.is)

pub returns-in-WriteFault-clause-writes : goal.returns-in-WriteFault-clause-writes
returns-in-WriteFault-clause-writes g c =
    subst (λ (k : ℕ). IsCounted g.O.Output.exact (c.ending_of-in-WriteFault.result ≡ g.M.Program.program.endings.of status.WriteFault) k
    (g.O.Output.faults c.run_over.new.output)) c.deed.ensures.same.1
    (counted_as _ _ _ (λ e. c.in-WriteFault.is) (λ e. c.ending_of-in-WriteFault.ensures) c.in_ok-status-in-Run.ensures.writes_counted)

pub returns-in-WriteFault-clause-later : goal.returns-in-WriteFault-clause-later
returns-in-WriteFault-clause-later g c =
    (c.run_over.ensures.later.0, omega (arith, c.deed.ensures.same.1, c.run_over.ensures.later.1))

-- ---- the run came to its end

pub write_ended-requires-in_default-clause-shown : goal.write_ended-requires-in_default-clause-shown
write_ended-requires-in_default-clause-shown g c =
    let m = g.M.Program in
    let f = g.P.Plant.fibres c.args.plant.now in
    let r = g.M.Run.Teller in
    let is = subst (IsDeed m.program r.ring r.MayRun m.Begins (m.ask_of c.args.asked) c.args.plan) c.in-Run.is c.in_ok-deed.ensures.deed in
    let fresh : IsFresh f = record {
      none = c.requires.fresh;
      honest = λ h. record { honest = h; tells_none = g.met.P.Plant.honest_tells_none c.args.plant.now h };
    } in
    let wrote = c.in_ok-status-in-Run.ensures.wrote c.in_default.not-WriteFault in
    let told = c.laws.ensures.steps c.in-Run.listing c.args.plan c.in-Run.new_run f _ _ c.in_ok-status-in-Run.status _ is.1 fresh wrote in
    run_shown m.program _ c.endings_agree.ensures c.in-Run.listing told.told c.in_ok-status-in-Run.status c.close-ending.result
    (steps_end _ _ _ _ _ _ _ _ _ _ _ wrote) (c.close-ending.ensures.ending told.told told.leaves)

pub write_ended-requires-in_default-clause-room : goal.write_ended-requires-in_default-clause-room
write_ended-requires-in_default-clause-room g c =
    g.met.O.Output.fewer _ 96 c.run_over.new.output
    (short_line [] c.close-ending.new.line.bytes _ refl
    (c.close-ending.ensures.line ∙ ap (λ (t : Written). t.bytes ++ g.M.Program.program.closing.line c.in-Run.listing c.close-ending.result) c.in_ok-line.ensures)
    c.close-ending.ensures.short) c.in_ok-status-in-Run.ensures.room

pub returns-in_default-clause-goes : goal.returns-in_default-clause-goes
returns-in_default-clause-goes g c =
    let m = g.M.Program in
    let means = g.P.Plant.fibres in
    let f = means c.args.plant.now in
    let r = g.M.Run.Teller in
    let is = subst (IsDeed m.program r.ring r.MayRun m.Begins (m.ask_of c.args.asked) c.args.plan) c.in-Run.is c.in_ok-deed.ensures.deed in
    let calls : Counts = record { before = g.P.Plant.faults c.args.plant.now; after = g.P.Plant.faults c.run_over.new.plant } in
    let fresh : IsFresh f = record {
      none = c.requires.fresh;
      honest = λ h. record { honest = h; tells_none = g.met.P.Plant.honest_tells_none c.args.plant.now h };
    } in
    let ran = c.in_ok-status-in-Run.ensures in
    let wrote = ran.wrote c.in_default.not-WriteFault in
    let mid = g.O.Output.written c.run_over.new.output in
    let new = g.O.Output.written c.write_ended-in_default.new.output in
    let left = means c.run_over.new.plant in
    let end = c.write_ended-in_default.result in
    let told = c.laws.ensures.steps c.in-Run.listing c.args.plan c.in-Run.new_run f _ mid c.in_ok-status-in-Run.status _ is.1 fresh wrote in
    subst (λ (o : Option (List ℕ)). Goes m.program m.cut (m.ask_of c.args.asked) c.args.plan f left g.P.Plant.exact calls end o new)
    c.deed.ensures.same.0
    (goes_run m.program m.cut (m.ask_of c.args.asked) c.args.plan f c.in-Run.listing is.0 g.P.Plant.exact calls m.Leaves _
    c.in_ok-status-in-Run.status c.close-ending.result end c.close-ending.new.line.bytes _ mid new c.laws.ensures.done c.laws.ensures.faults
    (steps_end _ _ _ _ _ _ _ _ _ _ _ wrote) told (c.close-ending.ensures.ending told.told told.leaves)
    (c.close-ending.ensures.line ∙ ap (λ (t : Written). t.bytes ++ m.program.closing.line c.in-Run.listing c.close-ending.result) c.in_ok-line.ensures)
    ran.failed ran.counted
    (wrote_as m.program.endings _ c.endings_agree.ensures c.close-ending.result c.close-ending.result c.close-ending.new.line.bytes
    c.close-ending.new.line.bytes end mid new refl refl c.write_ended-in_default.ensures.wrote))

pub returns-in_default-clause-alone : goal.returns-in_default-clause-alone
returns-in_default-clause-alone g c never =
    let m = g.M.Program in
    let r = g.M.Run.Teller in
    let is = subst (IsDeed m.program r.ring r.MayRun m.Begins (m.ask_of c.args.asked) c.args.plan) c.in-Run.is c.in_ok-deed.ensures.deed in
    absurd (never c.in-Run.listing is.0.does)

pub returns-in_default-clause-fault : goal.returns-in_default-clause-fault
returns-in_default-clause-fault g c e =
    let rose =
    c.write_ended-in_default.ensures.fault (fault_as g.M.Program.program.endings _ c.endings_agree.ensures c.write_ended-in_default.result e) in
    omega (arith, rose, c.run_over.ensures.later.1, c.deed.ensures.same.1)

pub returns-in_default-clause-writes : goal.returns-in_default-clause-writes
returns-in_default-clause-writes g c =
    counted_last g.O.Output.exact (g.O.Output.faults c.args.output.now) (g.O.Output.faults c.deed.new.output)
    (g.O.Output.faults c.run_over.new.output) (g.O.Output.faults c.write_ended-in_default.new.output) c.deed.ensures.same.1
    c.in_default.not-WriteFault c.in_ok-status-in-Run.ensures.writes_counted
    (counted_own g.M.Program.program.endings _ c.endings_agree.ensures c.write_ended-in_default.result _ _ _
    c.write_ended-in_default.ensures.writes)

pub returns-in_default-clause-later : goal.returns-in_default-clause-later
returns-in_default-clause-later g c = (
  c.run_over.ensures.later.0,
  omega (arith, c.deed.ensures.same.1, c.run_over.ensures.later.1, c.write_ended-in_default.ensures.later),
)
