use Rattle.sdh_laws.proofs.converging.Converging.{rounds_get_calm}
use Rattle.sdh_laws.proofs.converging.rounds_get_calm.Goals as goal

pub returns : goal.returns
returns c = rounds_get_calm c.rings_settle.ensures
