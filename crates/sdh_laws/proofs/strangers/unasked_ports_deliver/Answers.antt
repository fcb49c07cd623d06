use Rattle.sdh_laws.proofs.strangers.Untroubled.{unasked_ports_deliver}
use Rattle.sdh_laws.proofs.strangers.unasked_ports_deliver.Goals as goal

pub returns : goal.returns
returns c = unasked_ports_deliver c.still_rings_are_settled.ensures
