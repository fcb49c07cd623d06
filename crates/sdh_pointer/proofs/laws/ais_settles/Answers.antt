use Rattle.sdh_pointer.proofs.Settling.{ais_settles}
use Rattle.sdh_pointer.proofs.laws.ais_settles.Goals as goal

pub returns : goal.returns
returns c = ais_settles
