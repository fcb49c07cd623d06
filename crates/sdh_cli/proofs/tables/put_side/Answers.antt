use Rattle.std.proofs.Common.{◌+◌, ◌++◌, ◌∙◌, ap, sym, append_assoc, arith}
use Rattle.std.specs.List.{flat_map, range_with_len}
use Rattle.sdh_cli.specs.Tables.{slot_line}
use Rattle.sdh_cli.proofs.TableLines.{lines_more}
use Rattle.sdh_cli.proofs.tables.put_side.Goals as goal

pub loop-i-preserved : goal.loop-i-preserved
loop-i-preserved c =
    let line = slot_line c.args.plan.now.nodes c.args.plan.now.circuits c.args.at.0 c.args.side in
    let i = c.loop-i.i in
    let before = flat_map line (range_with_len 1 i) in
    record {
      bytes = c.put_slot.ensures.bytes
          ∙ ap (λ l. l ++ line (i + 1)) c.loop-i.invariant.bytes
          ∙ append_assoc c.args.text.now.bytes before (line (i + 1))
          ∙ ap (λ l. c.args.text.now.bytes ++ l) (sym (lines_more line 1 i (i + 1) (omega arith)));
      room = omega (arith, c.put_slot.ensures.room, c.loop-i.invariant.room);
    }
