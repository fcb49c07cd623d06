use Rattle.sdh_laws.proofs.restoring.Soon.{unslipped_rings_are_restored_soon}
use Rattle.sdh_laws.proofs.restoring.unslipped_rings_are_restored_soon.Goals as goal

pub returns : goal.returns
returns c = unslipped_rings_are_restored_soon c.rings_settle.ensures
