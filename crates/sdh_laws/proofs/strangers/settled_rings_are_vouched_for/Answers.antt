use Rattle.sdh_laws.proofs.strangers.Runs.{settled_rings_are_vouched_for}
use Rattle.sdh_laws.proofs.strangers.settled_rings_are_vouched_for.Goals as goal

pub returns : goal.returns
returns c = settled_rings_are_vouched_for c.still_rings_are_settled.ensures
