use Rattle.std.proofs.Common.{◌*◌, ◌-◌}
use Rattle.sdh_frame.specs.Aus.{is_payload}
use Rattle.sdh_frame.specs.Columns.{HasWritten}
use Rattle.sdh_frame.proofs.au.fill_row.Given as goal

abbrev pub invariant-loop-column : goal.invariant-loop-column
invariant-loop-column g l = HasWritten g.row.N (270 * l.r) l.column (is_payload g.row.N l.au) (λ i. 0xFF) l.fn.bytes l.bytes
