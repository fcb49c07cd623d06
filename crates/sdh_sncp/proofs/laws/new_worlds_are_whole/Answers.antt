use Rattle.sdh_sncp.proofs.New.{new_worlds_are_whole}
use Rattle.sdh_sncp.proofs.laws.new_worlds_are_whole.Goals as goal

pub returns : goal.returns
returns c = new_worlds_are_whole
