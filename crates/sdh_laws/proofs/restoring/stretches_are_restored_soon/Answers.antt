use Rattle.sdh_laws.proofs.restoring.Stretches.{stretches_are_restored_soon}
use Rattle.sdh_laws.proofs.restoring.stretches_are_restored_soon.Goals as goal

pub returns : goal.returns
returns c = stretches_are_restored_soon c.rings_settle.ensures
