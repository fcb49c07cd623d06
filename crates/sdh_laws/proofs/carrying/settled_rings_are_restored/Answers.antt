use Rattle.sdh_laws.proofs.carrying.Settles.{steps_restore}
use Rattle.sdh_laws.proofs.carrying.settled_rings_are_restored.Goals as goal

pub returns : goal.returns
returns c = steps_restore c.still_rings_are_settled.ensures
