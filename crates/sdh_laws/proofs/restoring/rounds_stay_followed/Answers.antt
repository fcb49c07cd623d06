use Rattle.sdh_laws.proofs.restoring.Followed.{rounds_stay_followed}
use Rattle.sdh_laws.proofs.restoring.rounds_stay_followed.Goals as goal

pub returns : goal.returns
returns c = rounds_stay_followed
