use Rattle.sdh_laws.proofs.converging.HealthyRounds.{healthy_rings_apply_nothing}
use Rattle.sdh_laws.proofs.converging.healthy_rings_apply_nothing.Goals as goal

pub returns : goal.returns
returns c = healthy_rings_apply_nothing
