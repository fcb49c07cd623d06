use Rattle.sdh_laws.proofs.converging.Converging.{steps_answer}
use Rattle.sdh_laws.proofs.converging.steps_answer.Goals as goal

pub returns : goal.returns
returns c = steps_answer c.rings_settle.ensures
