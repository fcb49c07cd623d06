use Rattle.sdh_promise.proofs.Rounds as proved
use Rattle.sdh_promise.proofs.reports_remember.Goals as goal

pub returns : goal.returns
returns c = proved.reports_remember
