use Rattle.sdh_plant.proofs.Calling.{stay_prepared}
use Rattle.sdh_plant.proofs.laws.calls_keep_a_plant_prepared.Goals as goal

pub returns : goal.returns
returns c = stay_prepared
