use Rattle.sdh_laws.proofs.resting.Resting.{steps_leave_at_rest}
use Rattle.sdh_laws.proofs.resting.steps_leave_at_rest.Goals as goal

pub returns : goal.returns
returns c = steps_leave_at_rest c.still_rings_are_settled.ensures
