use Rattle.sdh_verdicts.proofs.Longer.{longer_plans_are_plans}
use Rattle.sdh_verdicts.proofs.laws.longer_plans_are_plans.Goals as goal

pub returns : goal.returns
returns c = longer_plans_are_plans
