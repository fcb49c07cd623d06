use Rattle.std.proofs.Common.{◌≡◌, ◌+◌, ◌++◌, length, ap, sym, ◌∙◌, arith, append_assoc, append-nil}
use Rattle.std.proofs.lemmas.List.{length-append}
use Rattle.sdh_report.specs.Lines.{row, row_line, chunk_rows}
use Rattle.sdh_report.specs.Written.{Written}
use Rattle.sdh_report.proofs.Rows.{rows_none, rows_more, rows_room}
use Rattle.sdh_report.proofs.text.Text.put_rows.Goals as goal

pub loop-at-init : goal.loop-at-init
loop-at-init c =
    let old = c.args.self.now in
    record {
      bytes = sym (append-nil old.bytes) ∙ ap (λ l. old.bytes ++ l) (sym (rows_none c.args.chunk.now));
      room = omega (arith, ap (λ l. length l) (rows_none c.args.chunk.now));
    }

pub put_row-requires : goal.put_row-requires
put_row-requires c =
    let line : length (row_line c.row_of.result.now) ≡ length (row_line (row c.args.chunk.now c.loop-at.at)) =
    ap (λ l. length (row_line l)) c.row_of.ensures in
    omega (arith, c.requires, c.loop-at.invariant.room, line, rows_room c.args.chunk.now c.loop-at.at (omega arith))

pub loop-at-preserved : goal.loop-at-preserved
loop-at-preserved c =
    let old = c.args.self.now in
    let i = c.loop-at.at in
    let chunk = c.args.chunk.now in
    let line = row_line (row chunk i) in
    let is : row_line c.row_of.result.now ≡ line = ap row_line c.row_of.ensures in
    let size : length (row_line c.row_of.result.now) ≡ length line = ap (λ l. length l) is in
    let more : length (chunk_rows chunk (i + 1)) ≡ length (chunk_rows chunk i) + length line =
    ap (λ l. length l) (rows_more chunk i) ∙ length-append (chunk_rows chunk i) line in
    record {
      bytes =
          ap (λ (w : Written). w.bytes) c.put_row.ensures ∙ ap (λ l. c.loop-at.self.bytes ++ l) is
          ∙ ap (λ l. l ++ line) c.loop-at.invariant.bytes ∙ append_assoc old.bytes (chunk_rows chunk i) line
          ∙ ap (λ l. old.bytes ++ l) (sym (rows_more chunk i));
      room =
          omega (
            arith,
            ap (λ (w : Written). w.room) c.put_row.ensures,
            size,
            more,
            c.requires,
            c.loop-at.invariant.room,
            rows_room chunk i (omega arith),
          );
    }
