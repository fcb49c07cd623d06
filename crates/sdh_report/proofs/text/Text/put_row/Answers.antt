use Rattle.std.proofs.Common.{arith}
use Rattle.sdh_report.proofs.Rows.{length-row_line}
use Rattle.sdh_report.proofs.text.Text.put_row.Goals as goal

pub put_hex-requires : goal.put_hex-requires
put_hex-requires c = omega (arith, c.requires, length-row_line c.args.bytes.now c.if-is_empty.ensures)
