use Rattle.sdh_laws.proofs.strangers.Runs.{bytes_come_after_transit}
use Rattle.sdh_laws.proofs.strangers.bytes_come_after_transit.Goals as goal

pub returns : goal.returns
returns c = bytes_come_after_transit
