use Rattle.sdh_laws.proofs.strangers.Runs.{nodes_aside_may_be_held}
use Rattle.sdh_laws.proofs.strangers.nodes_aside_may_be_held.Goals as goal

pub returns : goal.returns
returns c = nodes_aside_may_be_held
