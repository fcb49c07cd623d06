use Rattle.sdh_outage_cli.proofs.Own.{own_bytes_are_own}
use Rattle.sdh_outage_cli.proofs.laws.own_bytes_are_own.Goals as goal

pub returns : goal.returns
returns c = own_bytes_are_own
