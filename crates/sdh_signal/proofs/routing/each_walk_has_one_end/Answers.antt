use Rattle.sdh_signal.proofs.Once.{once}
use Rattle.sdh_signal.proofs.routing.each_walk_has_one_end.Goals as goal

pub returns : goal.returns
returns c = once
