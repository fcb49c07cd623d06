use Rattle.sdh_owed.proofs.Settling as proved
use Rattle.sdh_owed.proofs.scripts_settle.Goals as goal

pub returns : goal.returns
returns c = proved.scripts_settle c.stretches_converge.ensures
