use Rattle.sdh_laws.proofs.converging.Converging.{rings_converge}
use Rattle.sdh_laws.proofs.converging.rings_converge.Goals as goal

pub returns : goal.returns
returns c = rings_converge c.rings_settle.ensures
