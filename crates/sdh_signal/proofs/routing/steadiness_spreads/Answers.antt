use Rattle.std.specs.Prelude.{◌≡◌, true}
use Rattle.sdh_signal.proofs.Spread.{steadiness_spreads}
use Rattle.sdh_signal.proofs.routing.steadiness_spreads.Goals as goal

pub returns : goal.returns
returns c = λ rs slots cs form m steady. steadiness_spreads rs slots cs form m (λ t p o. steady t p o ≡ true)
