use Rattle.sdh_laws.proofs.strangers.Runs.{vouched_rings_stay}
use Rattle.sdh_laws.proofs.strangers.vouched_rings_stay.Goals as goal

pub returns : goal.returns
returns c = vouched_rings_stay
