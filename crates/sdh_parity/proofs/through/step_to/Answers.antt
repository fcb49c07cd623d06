use Rattle.std.proofs.Common.{◌≡◌, ◌+◌, get_or, ap, sym, ◌∙◌, arith, bit_xor}
use Rattle.std.specs.Prelude.{if◌then◌else◌}
use Rattle.std.specs.Simd.Lanes.{chunk, put_chunk}
use Rattle.std.proofs.lemmas.Simd.{get_or-chunk, get_or-put_chunk_below, get_or-put_chunk_at}
use Rattle.sdh_parity.specs.Scrambling.{scrambling_byte}
use Rattle.sdh_parity.proofs.Mixing.{clear-at}
use Rattle.sdh_parity.proofs.through.step_to.Goals as goal
use Rattle.sdh_parity.proofs.through.step_to.Goals.{then-clear_after, else-clear_after}

pub returns-clause-below : goal.returns-clause-below
returns-clause-below c = λ m h. get_or-put_chunk_below c.args.i c.args.to.now _ m 0 h

pub returns-clause-inside : goal.returns-clause-inside
returns-clause-inside c = λ j h.
    get_or-put_chunk_at c.args.i c.args.to.now _ j 0 (omega (arith, c.keyed-new.ensures.len)) (omega (arith, c.keyed-new.ensures.len))
    ∙ c.keyed-new.ensures.each j h
    ∙ ap (λ z. bit_xor z (scrambling_byte (c.args.k + j))) (get_or-chunk c.args.i 16 c.args.from.now j 0 h)

pub returns-clause-clear : goal.returns-clause-clear
returns-clause-clear c = λ j h.
    let from = c.args.from.now in
    let to = c.args.to.now in
    let new = c.keyed-new.result in
    let old = chunk c.args.i 16 from in
    let is : c.if-clear_after.result ≡ (if c.args.clear_after then new else old) =
    elim c.if-clear_after.branch [
      | then-clear_after w ↦ w.result-is ∙ sym (ap (λ b. if b then new else old) w.if-clear_after.true)
      | else-clear_after w ↦ w.result-is ∙ sym (ap (λ b. if b then new else old) w.if-clear_after.false)
    ] in
    ap (λ l. get_or l j 0) is
    ∙ clear-at c.args.clear_after new old (put_chunk c.args.i to new) from j (c.args.i + j)
    (sym (get_or-put_chunk_at c.args.i to new j 0 (omega (arith, c.keyed-new.ensures.len)) (omega (arith, c.keyed-new.ensures.len))))
    (get_or-chunk c.args.i 16 from j 0 h)
