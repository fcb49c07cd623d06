use Rattle.sdh_laws.proofs.strangers.Runs.{rounds_keep_strangers_out}
use Rattle.sdh_laws.proofs.strangers.rounds_keep_strangers_out.Goals as goal

pub returns : goal.returns
returns c = rounds_keep_strangers_out
