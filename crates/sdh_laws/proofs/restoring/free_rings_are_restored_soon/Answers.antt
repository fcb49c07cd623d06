use Rattle.sdh_laws.proofs.restoring.Soon.{free_rings_are_restored_soon}
use Rattle.sdh_laws.proofs.restoring.free_rings_are_restored_soon.Goals as goal

pub returns : goal.returns
returns c = free_rings_are_restored_soon c.rings_settle.ensures
