use Rattle.sdh_laws.proofs.carrying.Applied.{failures_applied}
use Rattle.sdh_laws.proofs.carrying.failures_are_applied.Goals as goal

pub returns : goal.returns
returns c = failures_applied
