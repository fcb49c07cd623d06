use Rattle.sdh_verdicts.proofs.Occurring as proved
use Rattle.sdh_verdicts.proofs.laws.a_case_occurs.Goals as goal

pub returns : goal.returns
returns c = proved.a_case_occurs c.longer_plans_are_plans.ensures c.cases_are_shown.ensures
