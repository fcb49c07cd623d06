use Rattle.sdh_pointer.proofs.Bounds.{answer_tells_mode}
use Rattle.sdh_pointer.proofs.laws.answer_tells_mode.Goals as goal

pub returns : goal.returns
returns c = answer_tells_mode
