use Rattle.std.proofs.Common.{◌++◌, ◌∷◌, [], length, map, ap, sym, ◌∙◌}
use Rattle.sdh_basics.specs.Cells.{cells}
use Rattle.sdh_basics.proofs.CellsLaws.{cells-zero, cells-more}
use Rattle.sdh_outage_cli.proofs.Counting.{map_push}
use Rattle.sdh_outage_cli.proofs.rooms.rooms_below.Goals as goal

pub loop-count-preserved : goal.loop-count-preserved
loop-count-preserved c =
    let n = c.loop-count.count in
    ap (map length) c.in_ok-push.ensures.items ∙ map_push length c.loop-count.rooms.items c.in_ok-try_new.field-0
    ∙ ap (λ l. l ++ length c.in_ok-try_new.field-0 ∷ []) c.loop-count.invariant ∙ ap (λ y. cells (λ k. k) n ++ y ∷ []) c.in_ok-try_new.ensures
    ∙ sym (cells-more (λ k. k) n)

pub loop-count-init : goal.loop-count-init
loop-count-init c = ap (map length) c.in_ok-rooms.ensures.items ∙ sym (cells-zero (λ k. k))
