use Rattle.sdh_pointer.proofs.Spreading.{values_spread}
use Rattle.sdh_pointer.proofs.laws.values_spread.Goals as goal

pub returns : goal.returns
returns c = values_spread
