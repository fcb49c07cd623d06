-- Windows after stretches.
use Rattle.std.proofs.Common.{sym, subst}
use Rattle.sdh_signal.specs.Laws.{RingsSettle}
use Rattle.sdh_laws.proofs.hearing.Changes.{new_worlds_are_whole}
use Rattle.sdh_laws.proofs.hearing.Requests.{whole_stretches}
use Rattle.sdh_laws.specs.Carrying.Windows.{HasCircuits}
use Rattle.sdh_laws.proofs.carrying.Settles.{layout_stretches}
use Rattle.sdh_node.specs.Rings.Changes.{after_stretches, new_world}
use Rattle.sdh_laws.specs.Converging.Laws.{StretchesConverge}
use Rattle.sdh_laws.proofs.converging.Converging.{rings_converge}

pub stretches_converge : RingsSettle → StretchesConverge
stretches_converge law s ids circuits f ss may happen form =
    let w = new_world s ids circuits f in
    rings_converge law (after_stretches ss w) (whole_stretches ss w happen (new_worlds_are_whole s ids circuits f may.ids_ok may.honest))
    (subst HasCircuits (sym (layout_stretches ss w)) form)
