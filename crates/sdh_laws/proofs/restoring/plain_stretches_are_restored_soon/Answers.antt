use Rattle.sdh_laws.proofs.restoring.Anew.{plain_stretches_are_restored_soon}
use Rattle.sdh_laws.proofs.restoring.plain_stretches_are_restored_soon.Goals as goal

pub returns : goal.returns
returns c = plain_stretches_are_restored_soon c.rings_settle.ensures
