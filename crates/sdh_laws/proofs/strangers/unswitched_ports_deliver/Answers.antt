use Rattle.sdh_laws.proofs.strangers.Untouched.{unswitched_ports_deliver}
use Rattle.sdh_laws.proofs.strangers.unswitched_ports_deliver.Goals as goal

pub returns : goal.returns
returns c = unswitched_ports_deliver c.still_rings_are_settled.ensures
