use Rattle.sdh_watch.proofs.Settling as proved
use Rattle.sdh_watch.proofs.laws.scripts_settle.Goals as goal

pub returns : goal.returns
returns c = proved.scripts_settle c.stretches_converge.ensures c.settled_rings_restore.ensures c.steps_leave_at_rest.ensures
