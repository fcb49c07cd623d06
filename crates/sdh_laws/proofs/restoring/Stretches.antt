-- A ring is restored soon after any changes and rounds, from a new ring on.
use Rattle.std.proofs.Common.{◌≡◌, length, ap, sym, ◌∙◌, subst, arith}
use Rattle.sdh_signal.specs.Laws.{RingsSettle}
use Rattle.sdh_laws.specs.Carrying.Windows.{positions_of, HasCircuits}
use Rattle.sdh_laws.proofs.carrying.Settles.{v, u, whole_v, layout_v, restored_by_history}
use Rattle.sdh_laws.proofs.carrying.Ways.{layout_run}
use Rattle.sdh_laws.specs.Restoring.Laws.{StretchesAreRestoredSoon}
use Rattle.sdh_laws.proofs.restoring.Soon.{rings_are_restored_soon}

pub stretches_are_restored_soon : RingsSettle → StretchesAreRestoredSoon
stretches_are_restored_soon law s ids circuits f earlier last t may happen form long many =
    let begun = v s ids circuits f earlier last t may happen form many in
    let whole = whole_v s ids circuits f earlier last t may happen form many in
    let layout = layout_v s ids circuits f earlier last t may happen form many in
    let same : length begun.ring.ids ≡ length ids = ap positions_of layout in
    let left : length (u s ids circuits f earlier last t may happen form many).ring.ids ≡ length ids =
    ap positions_of (layout_run begun last.rounds) ∙ same in
    restored_by_history s ids circuits f earlier last t may happen form many (omega (arith, left, long))
    (rings_are_restored_soon law begun whole (subst HasCircuits (sym layout) form) last.rounds (omega (arith, same, long)))
