use Rattle.sdh_plant.proofs.Calling.{new_is_dark}
use Rattle.sdh_plant.proofs.laws.a_new_plant_is_dark.Goals as goal

pub returns : goal.returns
returns c = new_is_dark
