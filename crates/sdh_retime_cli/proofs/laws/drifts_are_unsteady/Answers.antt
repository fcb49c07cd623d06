use Rattle.sdh_retime_cli.proofs.Unsteady.{drifts_are_unsteady}
use Rattle.sdh_retime_cli.proofs.laws.drifts_are_unsteady.Goals as goal

pub returns : goal.returns
returns c = drifts_are_unsteady
