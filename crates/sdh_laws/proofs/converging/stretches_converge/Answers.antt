use Rattle.sdh_laws.proofs.converging.Stretches.{stretches_converge}
use Rattle.sdh_laws.proofs.converging.stretches_converge.Goals as goal

pub returns : goal.returns
returns c = stretches_converge c.rings_settle.ensures
