use Rattle.sdh_laws.proofs.converging.HealthyRounds.{healthy_steps_settle}
use Rattle.sdh_laws.proofs.converging.healthy_steps_settle.Goals as goal

pub returns : goal.returns
returns c = healthy_steps_settle
