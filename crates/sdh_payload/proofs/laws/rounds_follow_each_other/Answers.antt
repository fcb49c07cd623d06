use Rattle.sdh_payload.proofs.Histories.{rounds_follow_each_other}
use Rattle.sdh_payload.proofs.laws.rounds_follow_each_other.Goals as goal

pub returns : goal.returns
returns c = rounds_follow_each_other
