use Rattle.sdh_verdicts.proofs.Agreeing.{cases_are_shown}
use Rattle.sdh_verdicts.proofs.laws.cases_are_shown.Goals as goal

pub returns : goal.returns
returns c = cases_are_shown c.last_reports_are_foretold.ensures
