use Rattle.sdh_laws.proofs.converging.HealthyPorts.{healthy_steps_deliver}
use Rattle.sdh_laws.proofs.converging.healthy_steps_deliver.Goals as goal

pub returns : goal.returns
returns c = healthy_steps_deliver c.still_rings_are_settled.ensures
