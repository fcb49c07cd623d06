use Rattle.sdh_pointer.proofs.Unmoved.{interpreter_moves}
use Rattle.sdh_pointer.proofs.laws.interpreter_moves.Goals as goal

pub returns : goal.returns
returns c = interpreter_moves
