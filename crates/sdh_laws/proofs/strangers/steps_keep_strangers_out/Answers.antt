use Rattle.sdh_laws.proofs.strangers.Runs.{steps_keep_strangers_out}
use Rattle.sdh_laws.proofs.strangers.steps_keep_strangers_out.Goals as goal

pub returns : goal.returns
returns c = steps_keep_strangers_out
