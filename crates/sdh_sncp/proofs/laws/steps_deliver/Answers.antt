use Rattle.sdh_sncp.proofs.Converging.{steps_deliver}
use Rattle.sdh_sncp.proofs.laws.steps_deliver.Goals as goal

pub returns : goal.returns
returns c = steps_deliver
