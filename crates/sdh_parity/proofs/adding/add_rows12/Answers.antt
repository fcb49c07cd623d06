use Rattle.std.proofs.Common.{◌≡◌, ℕ, ◌+◌, ◌*◌, ◌^◌, ◌<◌, List, replicate, get_or, ap, sym, ◌∙◌, arith, bit_xor}
use Rattle.std.proofs.lemmas.Simd.{put_chunk_whole}
use Rattle.sdh_basics.specs.Parity.{bip8}
use Rattle.sdh_basics.proofs.ParityLaws.{bip8-push}
use Rattle.sdh_basics.proofs.CellsLaws.{cells-more}
use Rattle.sdh_parity.specs.Parity.{every}
use Rattle.sdh_parity.proofs.adding.add_rows12.Goals as goal

-- a column with its byte in the last row
column : (j rows : ℕ) (bytes : List ℕ) → ((k : ℕ) → get_or bytes k 0 < 2 ^ 8)
    → bit_xor (bip8 (every (0 + j) 12 rows bytes)) (get_or bytes (12 * rows + j) 0) ≡ bip8 (every j 12 (rows + 1) bytes)
column j rows bytes small =
    let at : 12 * rows + j ≡ j + rows * 12 = omega arith in
    let start : 0 + j ≡ j = omega arith in
    ap (λ s. bit_xor (bip8 (every s 12 rows bytes)) (get_or bytes (12 * rows + j) 0)) start
    ∙ ap (λ k. bit_xor (bip8 (every j 12 rows bytes)) (get_or bytes k 0)) at
    ∙ sym (ap bip8 (cells-more (λ r. get_or bytes (j + r * 12) 0) rows)
    ∙ bip8-push (every j 12 rows bytes) (get_or bytes (j + rows * 12) 0) (small (j + rows * 12)))

pub returns : goal.returns
returns c = λ j h.
    let bytes = c.args.bytes.now in
    let rows = c.args.rows in
    let whole = put_chunk_whole (replicate 16 0) c.columns12.result (sym c.columns12.ensures.len) in
    let small : (k : ℕ) → get_or bytes k 0 < 2 ^ 8 = λ k. omega (arith, c.type_inv.bytes k) in
    c.loop-i.invariant.done j (omega arith) ∙ ap (λ l. bit_xor (get_or c.args.sums.now j 0)
    (bit_xor (get_or l j 0) (get_or bytes (12 * rows + j) 0))) whole
    ∙ ap (λ z. bit_xor (get_or c.args.sums.now j 0) (bit_xor z (get_or bytes (12 * rows + j) 0))) (c.columns12.ensures.each j (omega arith))
    ∙ ap (bit_xor (get_or c.args.sums.now j 0)) (column j rows bytes small)
