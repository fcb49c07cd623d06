use Rattle.sdh_retime_cli.proofs.Endings.{unsteady_run}
use Rattle.sdh_retime_cli.proofs.Fronts.{run_front}
use Rattle.sdh_retime_cli.proofs.retiming.run.Goals as goal

pub returns-clause-unsteady : goal.returns-clause-unsteady
returns-clause-unsteady c =
    unsteady_run c.args.digits.now c.args.bytes.now c.take_all-status.result c.take_all-status.new.text.bytes c.requires.digits c.take_all-status.ensures

pub returns-clause-front : goal.returns-clause-front
returns-clause-front c =
    run_front c.args.digits.now c.args.bytes.now c.take_all-status.result c.take_all-status.new.text.bytes c.take_all-status.ensures
