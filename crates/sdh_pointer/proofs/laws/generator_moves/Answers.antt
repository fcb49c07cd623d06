use Rattle.sdh_pointer.proofs.Unmoved.{generator_moves}
use Rattle.sdh_pointer.proofs.laws.generator_moves.Goals as goal

pub returns : goal.returns
returns c = generator_moves
