use Rattle.std.proofs.Common.{◌+◌, length, ap, sym, subst, arith}
use Rattle.sdh_circuits.specs.declared.PortId.{PortId}
use Rattle.sdh_node.specs.Stations.{adm}
use Rattle.sdh_node.specs.Rings.Held.{HeldRing}
use Rattle.sdh_node.specs.Rings.Rounds.{world}
use Rattle.sdh_scripts.proofs.Reporting.{ended_by}
use Rattle.sdh_owed.specs.Steps.{world_after_step}
use Rattle.sdh_owed.specs.Reports.{report_of}
use Rattle.sdh_owed.proofs.Standing.{long_step}
use Rattle.sdh_cli.specs.Room.{report_room, MayList}
use Rattle.sdh_owed.proofs.Steps.{settled_held, settled_whole, next_by}
use Rattle.sdh_owed.specs.Scripts.{adm_walk}
use Rattle.sdh_report.specs.Reports.{listed}
use Rattle.std.proofs.lemmas.Result.{err_from_is_err_and}
use Rattle.sdh_shell.proofs.Failing.{counted_as}
use Rattle.sdh_scripts.proofs.Tellers.{stops_by, silent_begun, ends_by, none_written, fault_on, fault_back}
use Rattle.sdh_cli.proofs.script.RingRunTellerText.settle.Goals as goal

pub put_report-requires-clause-whole : goal.put_report-requires-clause-whole
put_report-requires-clause-whole g c = settled_whole _ _ c.args.limit c.in_ok-settle.ensures.step.outcome c.requires.may.1.1.whole

pub put_report-requires-clause-listing : goal.put_report-requires-clause-listing
put_report-requires-clause-listing g c =
    subst (λ (r : HeldRing). MayList (length r.circuits.circuits) c.args.self.now.listing)
    (sym (settled_held _ _ c.args.limit c.in_ok-settle.ensures.step.outcome)) c.requires.may.1.0

pub put_report-requires-clause-room : goal.put_report-requires-clause-room
put_report-requires-clause-room g c =
    let same =
    ap (λ (x : HeldRing). report_room c.args.self.now.listing (length x.ids) (length x.circuits.circuits))
    (settled_held _ _ c.args.limit c.in_ok-settle.ensures.step.outcome) in
    omega (arith, same, c.requires.room)

pub returns-clause-ok : goal.returns-clause-ok
returns-clause-ok g c = record {
  told = report_of (c.args.number + 1) c.settle.new.self;
  ended = ended_by adm world_after_step report_of _ c.args.limit (c.args.number + 1) _ c.in_ok-settle.ensures.step.outcome;
  text = c.put_report.ensures.bytes;
}

pub returns-clause-next : goal.returns-clause-next
returns-clause-next g c later may =
    let means = g.P.Plant.fibres in
    let w = world c.args.self.now.ring (means c.args.plant.now) in
    let left = world c.settle.new.self (means c.settle.new.plant) in
    let s = c.in_ok-settle.ensures.step.outcome in
    let held = settled_held w left c.args.limit s in
    let long = long_step w.ring left.ring c.args.limit may.1.begins c.in_ok-settle.ensures.step.numbers in
    let none = λ (port : PortId). c.in_ok-settle.ensures.laws.slips port (omega (arith, long.1)) in
    let most = s.settles.within in (
      subst (λ (r : HeldRing). MayList (length r.circuits.circuits) c.args.self.now.listing) (sym held) may.0,
      next_by 65536 c.args.number (length s.rounds) w left held (omega (arith, most, c.requires.few)) long.0 none
          (c.in_ok-settle.ensures.step.prepared (settled_whole w left c.args.limit s may.1.whole)) later may.1,
    )

pub returns-clause-room : goal.returns-clause-room
returns-clause-room g c more takes =
    let same =
    ap (λ (x : HeldRing). report_room c.args.self.now.listing (length x.ids) (length x.circuits.circuits))
    (settled_held _ _ c.args.limit c.in_ok-settle.ensures.step.outcome) in
    omega (arith, same, takes, c.put_report.ensures.room)

pub returns-clause-same_room : goal.returns-clause-same_room
returns-clause-same_room g c =
    ap (λ (x : HeldRing). report_room c.args.self.now.listing (length x.ids) (length x.circuits.circuits))
    (settled_held _ _ c.args.limit c.in_ok-settle.ensures.step.outcome)

-- ---- the settle step didn't end: the text is as it was

pub returns-in_err-settle-clause-err : goal.returns-in_err-settle-clause-err
returns-in_err-settle-clause-err g c =
    let means = g.P.Plant.fibres in
    let w = world c.args.self.now.ring (means c.args.plant.now) in
    let left = world c.settle.new.self (means c.settle.new.plant) in
    let why = c.in_err-settle.field-0.0 in
    let ends = ends_by adm_walk c.args.limit (c.args.number + 1) w left why c.in_err-settle.ensures.step.outcome in
    let p = err_from_is_err_and c.from_residual.result c.from_residual.ensures.1 in
    rw (p.1, p.2) (stops_by adm_walk c.args.limit (c.args.number + 1) w left why ends)

pub returns-in_err-settle-clause-begun : goal.returns-in_err-settle-clause-begun
returns-in_err-settle-clause-begun g c =
    let means = g.P.Plant.fibres in
    let w = world c.args.self.now.ring (means c.args.plant.now) in
    let left = world c.settle.new.self (means c.settle.new.plant) in
    let why = c.in_err-settle.field-0.0 in
    let ends = ends_by adm_walk c.args.limit (c.args.number + 1) w left why c.in_err-settle.ensures.step.outcome in
    let p = err_from_is_err_and c.from_residual.result c.from_residual.ensures.1 in
    rw (p.1, p.2) (silent_begun adm_walk c.args.limit (c.args.number + 1) w left (listed c.args.self.now.listing) c.args.output.now.bytes why ends)

pub returns-in_err-settle-clause-cut : goal.returns-in_err-settle-clause-cut
returns-in_err-settle-clause-cut g c =
    let p = err_from_is_err_and c.from_residual.result c.from_residual.ensures.1 in
    rw (p.1, p.2) (λ e. absurd (none_written c.in_err-settle.field-0.0 e))

pub returns-in_err-settle-clause-failed : goal.returns-in_err-settle-clause-failed
returns-in_err-settle-clause-failed g c =
    let p = err_from_is_err_and c.from_residual.result c.from_residual.ensures.1 in
    rw (p.1, p.2) (λ e. c.in_err-settle.ensures.step.failed (fault_back c.in_err-settle.field-0.0 e))

pub returns-in_err-settle-clause-counted : goal.returns-in_err-settle-clause-counted
returns-in_err-settle-clause-counted g c =
    let p = err_from_is_err_and c.from_residual.result c.from_residual.ensures.1 in
    let why = c.in_err-settle.field-0.0 in
    rw (p.1, p.2) (counted_as _ _ _ (fault_back why) (fault_on why) c.in_err-settle.ensures.step.counted)
