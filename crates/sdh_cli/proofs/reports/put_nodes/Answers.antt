use Rattle.std.proofs.Common.{◌++◌, ap, sym, ◌∙◌, arith, append_assoc, append-nil}
use Rattle.std.specs.List.{flat_map}
use Rattle.sdh_basics.specs.Cells.{cells}
use Rattle.sdh_report.specs.Lines.{node_line}
use Rattle.sdh_owed.specs.Reports.{told_at}
use Rattle.sdh_cli.proofs.Told.{nodes_none, nodes_more}
use Rattle.sdh_cli.proofs.reports.put_nodes.Goals as goal

pub loop-i-init : goal.loop-i-init
loop-i-init c = record {
  bytes = sym (ap (λ l. c.args.text.now.bytes ++ l) (nodes_none c.args.ring.now) ∙ append-nil c.args.text.now.bytes);
  room = omega arith;
}

pub loop-i-preserved : goal.loop-i-preserved
loop-i-preserved c =
    let r = c.args.ring.now in
    let i = c.loop-i.i in
    let before = flat_map node_line (cells (told_at r) i) in
    record {
      bytes = c.put_node.ensures.bytes
          ∙ ap (λ l. l ++ node_line (told_at r i)) c.loop-i.invariant.bytes
          ∙ append_assoc c.args.text.now.bytes before (node_line (told_at r i))
          ∙ ap (λ l. c.args.text.now.bytes ++ l) (sym (nodes_more r i));
      room = omega (arith, c.put_node.ensures.room, c.loop-i.invariant.room);
    }
