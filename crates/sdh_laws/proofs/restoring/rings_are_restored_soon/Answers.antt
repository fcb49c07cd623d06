use Rattle.sdh_laws.proofs.restoring.Soon.{rings_are_restored_soon}
use Rattle.sdh_laws.proofs.restoring.rings_are_restored_soon.Goals as goal

pub returns : goal.returns
returns c = rings_are_restored_soon c.rings_settle.ensures
