use Rattle.sdh_laws.proofs.carrying.Settles.{stretches_restore}
use Rattle.sdh_laws.proofs.carrying.settled_rings_restore.Goals as goal

pub returns : goal.returns
returns c = stretches_restore c.still_rings_are_settled.ensures
