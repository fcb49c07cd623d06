use Rattle.sdh_signal.proofs.Idle.{idle_walks_are_short}
use Rattle.sdh_signal.proofs.routing.idle_walks_are_short.Goals as goal

pub returns : goal.returns
returns c = idle_walks_are_short
