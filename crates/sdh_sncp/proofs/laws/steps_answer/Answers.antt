use Rattle.sdh_sncp.proofs.Converging.{steps_answer}
use Rattle.sdh_sncp.proofs.laws.steps_answer.Goals as goal

pub returns : goal.returns
returns c = steps_answer
