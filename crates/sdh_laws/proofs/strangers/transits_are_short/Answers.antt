use Rattle.sdh_laws.proofs.strangers.Runs.{transits_are_short}
use Rattle.sdh_laws.proofs.strangers.transits_are_short.Goals as goal

pub returns : goal.returns
returns c = transits_are_short
