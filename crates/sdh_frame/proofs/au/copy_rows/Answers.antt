use Rattle.std.proofs.Common.{◌≡◌, ◌+◌, ◌*◌, ◌-◌, get_or, subst, arith}
use Rattle.sdh_frame.specs.Aus.{is_payload}
use Rattle.sdh_frame.specs.Columns.{HasWritten}
use Rattle.sdh_frame.proofs.ByColumns.{none_written, further_written}
use Rattle.sdh_frame.proofs.au.copy_rows.Goals as goal

pub loop-r-init : goal.loop-r-init
loop-r-init g c =
    none_written g.row.N (is_payload g.row.N c.args.to) (λ i. get_or c.args.source.now (i - c.args.to + c.args.from) 0) 0
    (270 * 0) c.args.bytes.now (λ i low high. absurd (omega arith))

pub loop-r-preserved : goal.loop-r-preserved
loop-r-preserved g c =
    let r = c.loop-r.r in
    further_written g.row.N (is_payload g.row.N c.args.to) (λ i. get_or c.args.source.now (i - c.args.to + c.args.from) 0) 0 (270 * r)
    (270 * r + 270) (270 * (r + 1)) c.args.bytes.now c.loop-r.bytes c.copy_row.new.bytes (omega arith) (omega arith)
    (omega arith) c.loop-r.invariant c.copy_row.ensures

pub returns : goal.returns
returns g c =
    let end : 270 * c.loop-r.r ≡ 2430 = omega arith in
    subst (λ m. HasWritten g.row.N 0 m (is_payload g.row.N c.args.to)
    (λ i. get_or c.args.source.now (i - c.args.to + c.args.from) 0) c.args.bytes.now c.loop-r.bytes) end c.loop-r.invariant
