use Rattle.std.proofs.Common.{◌+◌, ◌*◌, ◌/◌, ◌%◌, slice_index}
use Rattle.sdh_frame.specs.Aus.{is_pointer}
use Rattle.sdh_frame.specs.Columns.{HasWritten}
use Rattle.sdh_frame.proofs.au.put_pointer.Given as goal

abbrev pub invariant-loop-p : goal.invariant-loop-p
invariant-loop-p g l =
    HasWritten g.row.N 0 (810 + l.p) (is_pointer g.row.N l.au)
    (λ i. slice_index l.pointers (i % (270 * g.row.N) / g.row.N)) l.fn.bytes l.bytes
