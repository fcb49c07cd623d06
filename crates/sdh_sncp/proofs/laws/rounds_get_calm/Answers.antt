use Rattle.sdh_sncp.proofs.Converging.{rounds_get_calm}
use Rattle.sdh_sncp.proofs.laws.rounds_get_calm.Goals as goal

pub returns : goal.returns
returns c = rounds_get_calm
