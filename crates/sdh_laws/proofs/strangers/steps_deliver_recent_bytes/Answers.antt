use Rattle.sdh_laws.proofs.strangers.Runs.{steps_deliver_recent_bytes}
use Rattle.sdh_laws.proofs.strangers.steps_deliver_recent_bytes.Goals as goal

pub returns : goal.returns
returns c = steps_deliver_recent_bytes
