use Rattle.std.proofs.Common.{length}
use Rattle.sdh_restoration.specs.Applied.{is_applied}
use Rattle.sdh_signal.proofs.Views.{on-ring}
use Rattle.sdh_signal.proofs.Sights.{arc-long, arc-short}
use Rattle.sdh_signal.proofs.Lengths.{is-short}
use Rattle.sdh_signal.proofs.routing.routes_are_short.Goals as goal

pub returns : goal.returns
returns c = λ rs slots cs form index circuit is.
    let ring = on-ring (length rs) slots cs form in
    is-short (length rs) (λ s. is_applied rs s) circuit (arc-long (length rs) cs ring index circuit is)
    (arc-short (length rs) cs ring index circuit is)
