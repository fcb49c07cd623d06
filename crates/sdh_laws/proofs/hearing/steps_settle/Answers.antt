use Rattle.sdh_laws.proofs.hearing.Signalling.{steps_settle}
use Rattle.sdh_laws.proofs.hearing.steps_settle.Goals as goal

pub returns : goal.returns
returns c = steps_settle c.still_rings_are_settled.ensures
