use Rattle.sdh_laws.proofs.carrying.Owed.{quiet_delivers}
use Rattle.sdh_laws.proofs.carrying.quiet_rings_deliver_what_is_due.Goals as goal

pub returns : goal.returns
returns c = quiet_delivers
