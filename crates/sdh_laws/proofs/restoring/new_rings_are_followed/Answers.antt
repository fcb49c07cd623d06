use Rattle.sdh_laws.proofs.restoring.Anew.{new_rings_are_followed}
use Rattle.sdh_laws.proofs.restoring.new_rings_are_followed.Goals as goal

pub returns : goal.returns
returns c = new_rings_are_followed
