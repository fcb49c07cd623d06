use Rattle.sdh_sncp.proofs.New.{new_rings_are_silent}
use Rattle.sdh_sncp.proofs.laws.new_rings_are_silent.Goals as goal

pub returns : goal.returns
returns c = new_rings_are_silent
