use Rattle.sdh_laws.proofs.restoring.Windows.{windows_leave_followed}
use Rattle.sdh_laws.proofs.restoring.windows_leave_followed.Goals as goal

pub returns : goal.returns
returns c = windows_leave_followed c.still_rings_are_settled.ensures
