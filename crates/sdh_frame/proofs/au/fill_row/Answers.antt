use Rattle.std.proofs.Common.{◌≡◌, ℕ, ◌+◌, ◌*◌, ◌-◌, ◌<◌, ◌≤◌, length, set, refl, subst, arith}
use Rattle.sdh_frame.specs.Aus.{is_payload}
use Rattle.sdh_frame.specs.Columns.{HasWritten}
use Rattle.sdh_frame.proofs.ByColumns.{head_is_none, body_is, none_written, further_written, one_written}
use Rattle.sdh_frame.proofs.au.fill_row.Goals as goal

pub loop-column-init : goal.loop-column-init
loop-column-init g c =
    let n = g.row.N in
    let r = c.args.r in
    none_written n (is_payload n c.args.au) (λ i. 0xFF) (270 * r) (270 * r + 9) c.args.bytes.now
    (λ i low high. head_is_none n c.args.au r i c.requires.rate low high)

pub loop-column-preserved : goal.loop-column-preserved
loop-column-preserved g c =
    let n = g.row.N in
    let r = c.args.r in
    let column = c.loop-column.column in
    let mid = c.loop-column.bytes in
    let w : ℕ = c.byte_of-i.result - 1 + c.args.au in
    let low : 270 * r + 9 ≤ column = omega arith in
    let high : column < 270 * r + 270 = omega arith in
    let place : w + 1 ≡ n * column + c.args.au = omega (arith, c.byte_of-i.ensures.place, c.byte_of-i.ensures.some) in
    let inside : w < length mid = omega (arith, c.byte_of-i.ensures.within, c.byte_of-i.ensures.some, c.requires.high) in
    further_written n (is_payload n c.args.au) (λ i. 0xFF) (270 * r) column (column + 1) (column + 1) c.args.bytes.now mid
    (set mid w (0xFF)) (omega arith) (omega arith) refl c.loop-column.invariant
    (one_written n (is_payload n c.args.au) (λ i. 0xFF) column c.args.au w (0xFF) mid c.requires.rate c.requires.low c.requires.high
    (λ i e. body_is n c.args.au r column i c.requires.rate low high e) place inside refl)

pub returns : goal.returns
returns g c =
    let end : c.loop-column.column ≡ 270 * c.args.r + 270 = omega arith in
    subst (λ m. HasWritten g.row.N (270 * c.args.r) m (is_payload g.row.N c.args.au)
    (λ i. 0xFF) c.args.bytes.now c.loop-column.bytes) end c.loop-column.invariant
