use Rattle.sdh_verdicts.proofs.Stretches.{requests_rest}
use Rattle.sdh_verdicts.proofs.Reports.{reports_foretold}
use Rattle.sdh_verdicts.proofs.foretold.reports_are_foretold.Goals as goal

pub returns : goal.returns
returns c = reports_foretold requests_rest
