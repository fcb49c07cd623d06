use Rattle.std.proofs.Common.{rules, ◌/◌, ◌++◌, ◌∙◌, ap, sym, append_assoc, arith}
use Rattle.std.specs.List.{flat_map, range_with_len}
use Rattle.sdh_ringmap.specs.Rates.{n_of}
use Rattle.sdh_cli.specs.Tables.{node_lines, tables_of}
use Rattle.sdh_cli.proofs.TableLines.{lines_more}
use Rattle.sdh_cli.proofs.tables.put_nodes.Goals as goal

pub loop-i-preserved : goal.loop-i-preserved
loop-i-preserved c =
    let plan = c.args.plan.now in
    let lines = node_lines (n_of plan.settings.rate / 2) plan.nodes plan.circuits in
    let i = c.loop-i.i in
    let before = flat_map lines (range_with_len 0 i) in
    record {
      bytes = c.in_ok-put_node.ensures.bytes
          ∙ ap (λ l. l ++ lines i) c.loop-i.invariant.bytes
          ∙ append_assoc c.args.text.now.bytes before (lines i)
          ∙ ap (λ l. c.args.text.now.bytes ++ l) (sym (lines_more lines 0 i i (omega arith)));
      room = omega (arith, c.put_node.ensures.room, c.loop-i.invariant.room);
    }

pub returns-clause-bytes : goal.returns-clause-bytes
unfolding tables_of
returns-clause-bytes c = search rules
