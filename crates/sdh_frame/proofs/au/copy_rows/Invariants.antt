use Rattle.std.proofs.Common.{◌*◌, ◌+◌, ◌-◌, slice_index}
use Rattle.sdh_frame.specs.Aus.{is_payload}
use Rattle.sdh_frame.specs.Columns.{HasWritten}
use Rattle.sdh_frame.proofs.au.copy_rows.Given as goal

abbrev pub invariant-loop-r : goal.invariant-loop-r
invariant-loop-r g l =
    HasWritten g.row.N 0 (270 * l.r) (is_payload g.row.N l.to) (λ i. slice_index l.source (i - l.to + l.from)) l.fn.bytes l.bytes
