use Rattle.sdh_owed.proofs.Healthy as proved
use Rattle.sdh_owed.proofs.healthy_scripts.Goals as goal

pub returns : goal.returns
returns c = proved.healthy_scripts c.healthy_steps_settle.ensures c.healthy_steps_deliver.ensures
