use Rattle.sdh_laws.proofs.resting.Resting.{calm_goes_on}
use Rattle.sdh_laws.proofs.resting.calm_goes_on.Goals as goal

pub returns : goal.returns
returns c = calm_goes_on c.still_rings_are_settled.ensures
