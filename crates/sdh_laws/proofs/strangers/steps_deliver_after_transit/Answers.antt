use Rattle.sdh_laws.proofs.strangers.Runs.{steps_deliver_after_transit}
use Rattle.sdh_laws.proofs.strangers.steps_deliver_after_transit.Goals as goal

pub returns : goal.returns
returns c = steps_deliver_after_transit
