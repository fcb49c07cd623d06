use Rattle.sdh_sncp_cli.proofs.Due.{scripts_settle}
use Rattle.sdh_sncp_cli.proofs.laws.path_scripts_settle.Goals as goal

pub returns : goal.returns
returns c = scripts_settle
