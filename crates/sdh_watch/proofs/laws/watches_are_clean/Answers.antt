use Rattle.sdh_watch.proofs.Owing.{watches_clean}
use Rattle.sdh_watch.proofs.laws.watches_are_clean.Goals as goal

pub returns : goal.returns
returns c = watches_clean c.settled_rings_restore.ensures c.steps_leave_at_rest.ensures
