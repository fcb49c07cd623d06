use Rattle.sdh_verdicts.proofs.Stretches as proved
use Rattle.sdh_verdicts.proofs.foretold.requests_rest.Goals as goal

pub returns : goal.returns
returns c = proved.requests_rest
