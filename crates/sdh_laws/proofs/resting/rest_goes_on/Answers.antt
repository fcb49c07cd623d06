use Rattle.sdh_laws.proofs.resting.Resting.{rest_goes_on}
use Rattle.sdh_laws.proofs.resting.rest_goes_on.Goals as goal

pub returns : goal.returns
returns c = rest_goes_on
