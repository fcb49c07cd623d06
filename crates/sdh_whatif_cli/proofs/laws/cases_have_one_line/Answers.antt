use Rattle.sdh_whatif_cli.proofs.Listed.{cases_have_one_line}
use Rattle.sdh_whatif_cli.proofs.laws.cases_have_one_line.Goals as goal

pub returns : goal.returns
returns c = cases_have_one_line
