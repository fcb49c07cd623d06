use Rattle.sdh_verdicts.proofs.Stretches.{requests_rest}
use Rattle.sdh_verdicts.proofs.Reports.{reports_foretold, last_foretold}
use Rattle.sdh_verdicts.proofs.foretold.last_reports_are_foretold.Goals as goal

pub returns : goal.returns
returns c = last_foretold (reports_foretold requests_rest)
