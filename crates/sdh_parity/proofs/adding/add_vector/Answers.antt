use Rattle.std.proofs.Common.{◌≡◌, ℕ, ◌+◌, ◌≤◌, List, length, get_or, ap, sym, ◌∙◌, arith, bit_xor}
use Rattle.std.specs.Simd.Lanes.{zip2, chunk}
use Rattle.std.proofs.lemmas.Simd.{length-zip2, get_or-zip2, length-chunk, get_or-chunk, get_or-put_chunk_below, get_or-put_chunk_at}
use Rattle.std.proofs.lemmas.Simd.{get_or-put_chunk_above}
use Rattle.sdh_parity.proofs.adding.add_vector.Goals as goal

long : (sums more : List ℕ) (at : ℕ) → at + 16 ≤ length sums → length more ≡ 16 → length (zip2 bit_xor (chunk at 16 sums) more) ≡ 16
long sums more at room e = length-zip2 bit_xor (chunk at 16 sums) more (length-chunk at 16 sums room ∙ sym e) ∙ length-chunk at 16 sums room

pub returns-clause-below : goal.returns-clause-below
returns-clause-below c = λ k h. get_or-put_chunk_below c.args.at c.args.sums.now _ k 0 h

pub returns-clause-inside : goal.returns-clause-inside
returns-clause-inside c = λ j h.
    let sums = c.args.sums.now in
    let at = c.args.at in
    let l = long sums c.args.more at c.requires.room c.requires.more in
    let lc = length-chunk at 16 sums c.requires.room in
    get_or-put_chunk_at at sums _ j 0 (omega (arith, l)) (omega (arith, l))
    ∙ get_or-zip2 bit_xor (chunk at 16 sums) c.args.more j 0 0 0 (omega arith) (omega arith)
    ∙ ap (λ z. bit_xor z (get_or c.args.more j 0)) (get_or-chunk at 16 sums j 0 h)

pub returns-clause-above : goal.returns-clause-above
returns-clause-above c =
    λ k h. get_or-put_chunk_above c.args.at c.args.sums.now _ k 0
    (omega (arith, long c.args.sums.now c.args.more c.args.at c.requires.room c.requires.more))
