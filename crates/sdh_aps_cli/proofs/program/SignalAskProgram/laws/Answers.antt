use Rattle.sdh_aps_cli.proofs.Plans.{run_done}
use Rattle.sdh_aps_cli.proofs.Goings.{run_faults, steps_reported, cuts_reported}
use Rattle.sdh_aps_cli.proofs.program.SignalAskProgram.laws.Goals as goal

pub returns-clause-steps : goal.returns-clause-steps
returns-clause-steps g c = steps_reported c.scripts_settle.ensures c.scripts_go_as_signals.ensures c.steps_go_as_signals.ensures

pub returns-clause-cuts : goal.returns-clause-cuts
returns-clause-cuts g c =
    cuts_reported c.scripts_settle.ensures c.scripts_go_as_signals.ensures c.steps_go_as_signals.ensures g.W.Sink.written g.W.Sink.faults

pub returns-clause-done : goal.returns-clause-done
returns-clause-done g c listing plan f told end left came may fine = run_done listing plan f left told end came may fine

pub returns-clause-faults : goal.returns-clause-faults
returns-clause-faults g c = run_faults
