use Rattle.sdh_laws.proofs.converging.HealthyRounds.{healthy_rounds_are_calm}
use Rattle.sdh_laws.proofs.converging.healthy_rounds_are_calm.Goals as goal

pub returns : goal.returns
returns c = healthy_rounds_are_calm
