use Rattle.sdh_pointer.proofs.Unmoved.{unmoved_is_normal}
use Rattle.sdh_pointer.proofs.laws.unmoved_is_normal.Goals as goal

pub returns : goal.returns
returns c = unmoved_is_normal
