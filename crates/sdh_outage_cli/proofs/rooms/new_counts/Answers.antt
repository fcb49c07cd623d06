use Rattle.std.proofs.Common.{◌≤◌, ◌++◌, ◌∷◌, [], get_or, ap, sym, subst, ◌∙◌, arith}
use Rattle.sdh_basics.specs.Cells.{cells}
use Rattle.sdh_basics.proofs.CellsLaws.{cells-zero, cells-more}
use Rattle.sdh_outage_cli.specs.Rooms.{ports_at}
use Rattle.sdh_outage_cli.proofs.Counting.{push_few}
use Rattle.sdh_outage_cli.proofs.rooms.new_counts.Goals as goal

pub loop-i-preserved : goal.loop-i-preserved
loop-i-preserved c =
    let f = ports_at c.args.circuits.now.circuits in
    let i = c.loop-i.i in
    let old = c.loop-i.counts.items in
    let inv = c.loop-i.invariant in
    let x = c.ports_at.result in
    record {
      counts =
          c.in_ok-push.ensures.items ∙ ap (λ l. l ++ x ∷ []) inv.counts ∙ ap (λ y. cells f i ++ y ∷ []) c.ports_at.ensures.count
          ∙ sym (cells-more f i);
      few =
          λ j. subst (λ l. get_or l j 0 ≤ 256) (sym c.in_ok-push.ensures.items) (push_few old x 256 c.ports_at.ensures.few inv.few j);
    }

pub loop-i-init : goal.loop-i-init
loop-i-init c = record {
  counts = c.in_ok-counts.ensures.items ∙ sym (cells-zero (ports_at c.args.circuits.now.circuits));
  few = λ j. subst (λ l. get_or l j 0 ≤ 256) (sym c.in_ok-counts.ensures.items) (omega arith);
}
