use Rattle.std.proofs.Common.{length}
use Rattle.sdh_signal.proofs.Views.{on-ring}
use Rattle.sdh_signal.proofs.Rest.{resting}
use Rattle.sdh_signal.proofs.Inhabited.{some-nodes}
use Rattle.sdh_signal.proofs.Once.{no-stranger}
use Rattle.sdh_signal.proofs.routing.no_port_meets_a_stranger.Goals as goal

pub returns : goal.returns
unfolding resting
returns c = λ rs slots cs form index circuit is e k q i x w.
    let ring = on-ring (length rs) slots cs form in
    no-stranger (length rs) (resting rs (some-nodes (length rs) cs ring index circuit is)) cs ring index circuit is e k q i x w
