use Rattle.sdh_laws.proofs.strangers.Runs.{nothing_comes_late}
use Rattle.sdh_laws.proofs.strangers.nothing_comes_late.Goals as goal

pub returns : goal.returns
returns c = nothing_comes_late
