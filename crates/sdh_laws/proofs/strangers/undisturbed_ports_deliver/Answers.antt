use Rattle.sdh_laws.proofs.strangers.Straight.{undisturbed_ports_deliver}
use Rattle.sdh_laws.proofs.strangers.undisturbed_ports_deliver.Goals as goal

pub returns : goal.returns
returns c = undisturbed_ports_deliver
