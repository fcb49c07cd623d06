use Rattle.sdh_laws.proofs.strangers.Runs.{routes_are_transits}
use Rattle.sdh_laws.proofs.strangers.routes_are_transits.Goals as goal

pub returns : goal.returns
returns c = routes_are_transits
