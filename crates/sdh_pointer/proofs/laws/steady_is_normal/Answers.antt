use Rattle.sdh_pointer.proofs.Unmoved.{steady_is_normal}
use Rattle.sdh_pointer.proofs.laws.steady_is_normal.Goals as goal

pub returns : goal.returns
returns c = steady_is_normal
