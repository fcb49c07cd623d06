use Rattle.sdh_sncp.proofs.New.{stay_whole}
use Rattle.sdh_sncp.proofs.laws.stay_whole.Goals as goal

pub returns : goal.returns
returns c = stay_whole
