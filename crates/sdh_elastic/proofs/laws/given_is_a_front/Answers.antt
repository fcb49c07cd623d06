use Rattle.sdh_elastic.proofs.Runs.{given_is_a_front}
use Rattle.sdh_elastic.proofs.laws.given_is_a_front.Goals as goal

pub returns : goal.returns
returns c = given_is_a_front
