use Rattle.sdh_sncp.proofs.New.{stay_placed}
use Rattle.sdh_sncp.proofs.laws.stay_placed.Goals as goal

pub returns : goal.returns
returns c = stay_placed
