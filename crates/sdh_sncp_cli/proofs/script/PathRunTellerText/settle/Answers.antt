use Rattle.std.proofs.Common.{◌+◌, arith}
use Rattle.sdh_sncp.specs.Ring.{world}
use Rattle.sdh_sncp.specs.Stations.{path_node}
use Rattle.sdh_scripts.proofs.Reporting.{ended_by}
use Rattle.sdh_sncp_cli.specs.Reports.{path_ring_report}
use Rattle.sdh_sncp_cli.specs.Walking.{does}
use Rattle.sdh_sncp_cli.proofs.Stepping.{settled_whole, settled_room, settled_next}
use Rattle.sdh_sncp_cli.specs.Walking.{path_walk}
use Rattle.sdh_report.specs.Reports.{report_text}
use Rattle.std.proofs.lemmas.Result.{err_from_is_err_and}
use Rattle.sdh_shell.proofs.Failing.{counted_as}
use Rattle.sdh_scripts.proofs.Tellers.{stops_by, silent_begun, ends_by, none_written, fault_on, fault_back}
use Rattle.sdh_sncp_cli.proofs.script.PathRunTellerText.settle.Goals as goal

pub put_report-requires-clause-room : goal.put_report-requires-clause-room
put_report-requires-clause-room g c = omega (arith, settled_room _ _ c.args.limit c.in_ok-settle.ensures.step.outcome, c.requires.room)

pub returns-clause-ok : goal.returns-clause-ok
returns-clause-ok g c = record {
  told = path_ring_report (c.args.number + 1) c.settle.new.self;
  ended = ended_by path_node does path_ring_report _ c.args.limit (c.args.number + 1) _ c.in_ok-settle.ensures.step.outcome;
  text = c.put_report.ensures.bytes;
}

pub returns-clause-next : goal.returns-clause-next
returns-clause-next g c =
    let means = g.P.Plant.fibres in
    let w = world c.args.self.now.ring (means c.args.plant.now) in
    let left = world c.settle.new.self (means c.settle.new.plant) in
    let s = c.in_ok-settle.ensures.step.outcome in
    settled_next c.args.limit c.args.number w left c.requires.few s
    (c.in_ok-settle.ensures.step.prepared (settled_whole w left c.args.limit s c.requires.may.1.whole))

pub returns-clause-room : goal.returns-clause-room
returns-clause-room g c more takes =
    omega (arith, settled_room _ _ c.args.limit c.in_ok-settle.ensures.step.outcome, takes, c.put_report.ensures.room)

pub returns-clause-same_room : goal.returns-clause-same_room
returns-clause-same_room g c = settled_room _ _ c.args.limit c.in_ok-settle.ensures.step.outcome

-- ---- the settle step didn't end: the text is as it was

pub returns-in_err-settle-clause-err : goal.returns-in_err-settle-clause-err
returns-in_err-settle-clause-err g c =
    let means = g.P.Plant.fibres in
    let w = world c.args.self.now.ring (means c.args.plant.now) in
    let left = world c.settle.new.self (means c.settle.new.plant) in
    let why = c.in_err-settle.field-0.0 in
    let ends = ends_by path_walk c.args.limit (c.args.number + 1) w left why c.in_err-settle.ensures.step.outcome in
    let p = err_from_is_err_and c.from_residual.result c.from_residual.ensures.1 in
    rw (p.1, p.2) (stops_by path_walk c.args.limit (c.args.number + 1) w left why ends)

pub returns-in_err-settle-clause-begun : goal.returns-in_err-settle-clause-begun
returns-in_err-settle-clause-begun g c =
    let means = g.P.Plant.fibres in
    let w = world c.args.self.now.ring (means c.args.plant.now) in
    let left = world c.settle.new.self (means c.settle.new.plant) in
    let why = c.in_err-settle.field-0.0 in
    let ends = ends_by path_walk c.args.limit (c.args.number + 1) w left why c.in_err-settle.ensures.step.outcome in
    let p = err_from_is_err_and c.from_residual.result c.from_residual.ensures.1 in
    rw (p.1, p.2) (silent_begun path_walk c.args.limit (c.args.number + 1) w left (report_text) c.args.output.now.bytes why ends)

pub returns-in_err-settle-clause-cut : goal.returns-in_err-settle-clause-cut
returns-in_err-settle-clause-cut g c =
    let p = err_from_is_err_and c.from_residual.result c.from_residual.ensures.1 in
    rw (p.1, p.2) (λ e. absurd (none_written c.in_err-settle.field-0.0 e))

pub returns-in_err-settle-clause-failed : goal.returns-in_err-settle-clause-failed
returns-in_err-settle-clause-failed g c =
    let p = err_from_is_err_and c.from_residual.result c.from_residual.ensures.1 in
    rw (p.1, p.2) (λ e. c.in_err-settle.ensures.step.failed (fault_back c.in_err-settle.field-0.0 e))

pub returns-in_err-settle-clause-counted : goal.returns-in_err-settle-clause-counted
returns-in_err-settle-clause-counted g c =
    let p = err_from_is_err_and c.from_residual.result c.from_residual.ensures.1 in
    let why = c.in_err-settle.field-0.0 in
    rw (p.1, p.2) (counted_as _ _ _ (fault_back why) (fault_on why) c.in_err-settle.ensures.step.counted)
