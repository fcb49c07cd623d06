use Rattle.std.proofs.Common.{◌≡◌, ℕ, ◌+◌, ◌*◌, ◌-◌, ◌++◌, length, drop, refl, ap, sym, ◌∙◌, arith, append_assoc}
use Rattle.std.proofs.Math.Seq.{drop-append_seam}
use Rattle.sdh_basics.specs.Parity.{bip8}
use Rattle.sdh_parity.specs.Pieces.{Position, after_bytes, scrambled_from}
use Rattle.sdh_overhead.specs.Rows.{skipped}
use Rattle.sdh_overhead.proofs.Passing.{cut-row, row-end, sum-up}
use Rattle.sdh_overhead.proofs.rows.Rows.receive.Goals as goal

pub returns-clause-bytes : goal.returns-clause-bytes
returns-clause-bytes c =
    let n = c.args.n in
    let head = c.split_at_mut-head.result.0.now in
    let rest = c.split_at_mut-head.result.1.now in
    let at : ℕ = (c.args.row - 1) * (270 * n) in
    let one = c.apply.ensures.bytes ∙ ap (λ (p : Position). scrambled_from p.clear p.at head) c.requires.place in
    let mid = c.apply.ensures.at ∙ ap (λ (p : Position). record p { at = p.at + length head }) c.requires.place in
    let two = c.receive_piece.ensures.bytes ∙ ap (λ (p : Position). scrambled_from p.clear p.at rest) mid in
    cut-row n at (at + length head) c.args.bytes.now head rest c.apply.new.bytes c.receive_piece.new.bytes c.split_at_mut-head.ensures.value refl one two

pub returns-clause-place : goal.returns-clause-place
returns-clause-place c =
    let n = c.args.n in
    let head = c.split_at_mut-head.result.0.now in
    let rest = c.split_at_mut-head.result.1.now in
    let at : ℕ = (c.args.row - 1) * (270 * n) in
    let mid = c.apply.ensures.at ∙ ap (λ (p : Position). record p { at = p.at + length head }) c.requires.place in
    let wide : length head + length rest ≡ 270 * n =
    omega (arith, c.split_at_mut-head.ensures.front_len, c.split_at_mut-head.ensures.back_len, c.requires.bytes) in
    let end : at + length head + length rest ≡ c.args.row * (270 * n) =
    sum-up at (length head) (length rest) (270 * n) wide ∙ row-end c.args.row (270 * n) c.requires.first in
    c.receive_piece.ensures.at ∙ ap (λ (p : Position). record p { at = p.at + length rest }) mid
    ∙ (λ i. record { clear = 9 * n; at = end i })

pub returns-clause-line : goal.returns-clause-line
returns-clause-line c = λ before e.
    let head = c.split_at_mut-head.result.0.now in
    let rest = c.split_at_mut-head.result.1.now in
    c.receive_piece.ensures.line (before ++ head) (c.add.ensures before e)
    ∙ ap bip8 (append_assoc before head rest ∙ ap (λ l. before ++ l) (sym c.split_at_mut-head.ensures.value))

pub returns-clause-clear : goal.returns-clause-clear
returns-clause-clear c = λ before e.
    let front = c.apply.new.bytes in
    let back = c.receive_piece.new.bytes in
    let many : length front ≡ skipped c.args.n c.args.row =
    c.apply.auto.bytes ∙ c.split_at_mut-head.ensures.front_len ∙ c.head_len.ensures in
    let behind : back ≡ drop (skipped c.args.n c.args.row) (front ++ back) =
    sym (drop-append_seam front back) ∙ ap (λ k. drop k (front ++ back)) many in
    c.receive_piece.ensures.clear before (e ∙ ap (λ m. after_bytes m before) (sym c.requires.rate))
    ∙ ap (λ m. after_bytes m (before ++ back)) c.requires.rate
    ∙ ap (λ l. after_bytes c.args.n (before ++ l)) behind
