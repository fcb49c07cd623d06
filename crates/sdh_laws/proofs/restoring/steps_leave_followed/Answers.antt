use Rattle.sdh_laws.proofs.restoring.Windows.{steps_leave_followed}
use Rattle.sdh_laws.proofs.restoring.steps_leave_followed.Goals as goal

pub returns : goal.returns
returns c = steps_leave_followed c.still_rings_are_settled.ensures
