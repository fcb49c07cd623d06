use Rattle.sdh_report.proofs.Rows.{take_short}
use Rattle.sdh_report.proofs.lines.one_row.Goals as goal

pub returns : goal.returns
returns c = take_short c.min.result 261 c.args.bytes.now c.min.ensures
