use Rattle.sdh_elastic.proofs.Runs.{steady_runs_last}
use Rattle.sdh_elastic.proofs.laws.steady_runs_last.Goals as goal

pub returns : goal.returns
returns c = steady_runs_last
