use Rattle.std.proofs.Common.{length}
use Rattle.sdh_signal.proofs.Rest.{resting}
use Rattle.sdh_signal.proofs.Inhabited.{below-some}
use Rattle.sdh_signal.proofs.Covering.{stops}
use Rattle.sdh_signal.proofs.routing.the_protection_ring_is_open.Goals as goal

pub returns : goal.returns
unfolding resting
returns c = λ rs d p h.
    let some = below-some (length rs) p h in
    let s = stops (length rs) (resting rs some) some d p h in
    (s.steps, s.few, s.there)
