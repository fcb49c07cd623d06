use Rattle.sdh_laws.proofs.strangers.Runs.{bytes_always_come_after_transit}
use Rattle.sdh_laws.proofs.strangers.bytes_always_come_after_transit.Goals as goal

pub returns : goal.returns
returns c = bytes_always_come_after_transit
