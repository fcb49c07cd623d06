use Rattle.sdh_plant.proofs.Calling.{sent_comes}
use Rattle.sdh_plant.proofs.laws.what_is_sent_comes_to_the_neighbour.Goals as goal

pub returns : goal.returns
returns c = sent_comes
