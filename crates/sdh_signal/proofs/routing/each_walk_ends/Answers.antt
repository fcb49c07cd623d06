use Rattle.std.proofs.Common.{length}
use Rattle.sdh_signal.proofs.Views.{on-ring}
use Rattle.sdh_signal.proofs.Rest.{resting}
use Rattle.sdh_signal.proofs.Inhabited.{below-some}
use Rattle.sdh_signal.proofs.Loops.{no-loop}
use Rattle.sdh_signal.proofs.routing.each_walk_ends.Goals as goal

pub returns : goal.returns
unfolding resting
returns c = λ rs slots cs form m p o h.
    let some = below-some (length rs) p h in
    no-loop (length rs) (resting rs some) cs (on-ring (length rs) slots cs form) some m p o h
