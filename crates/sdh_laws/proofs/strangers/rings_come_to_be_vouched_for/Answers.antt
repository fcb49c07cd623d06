use Rattle.sdh_laws.proofs.strangers.Runs.{rings_come_to_be_vouched_for}
use Rattle.sdh_laws.proofs.strangers.rings_come_to_be_vouched_for.Goals as goal

pub returns : goal.returns
returns c = rings_come_to_be_vouched_for
