use Rattle.sdh_owed.proofs.History.{reports_owed}
use Rattle.sdh_owed.proofs.reports_are_owed.Goals as goal

pub returns : goal.returns
returns c = reports_owed c.settled_rings_restore.ensures
