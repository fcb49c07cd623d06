use Rattle.sdh_whatif_cli.proofs.Truth.{lines_are_true}
use Rattle.sdh_whatif_cli.proofs.laws.lines_are_true.Goals as goal

pub returns : goal.returns
returns c = lines_are_true c.longer_plans_are_plans.ensures c.cases_are_shown.ensures
