use Rattle.sdh_sncp.proofs.Owed.{quiet_delivers}
use Rattle.sdh_sncp.proofs.laws.quiet_rings_deliver.Goals as goal

pub returns : goal.returns
returns c = quiet_delivers
