use Rattle.std.proofs.Common.{length}
use Rattle.sdh_signal.proofs.Views.{on-ring}
use Rattle.sdh_signal.proofs.Rest.{resting}
use Rattle.sdh_signal.proofs.Inhabited.{some-nodes}
use Rattle.sdh_signal.proofs.Along.{along-route}
use Rattle.sdh_signal.proofs.routing.each_walk_follows_the_route.Goals as goal

pub returns : goal.returns
unfolding resting
returns c = λ rs slots cs form index circuit is.
    let ring = on-ring (length rs) slots cs form in
    along-route (length rs) (resting rs (some-nodes (length rs) cs ring index circuit is)) cs ring index circuit is
