use Rattle.std.proofs.Common.{◌≡◌, ℕ, ◌+◌, ◌<◌, ◌≤◌, Bool, List, length, get_or, ap, sym, ◌∙◌, arith, bit_xor}
use Rattle.std.specs.Prelude.{if◌then◌else◌}
use Rattle.std.specs.Simd.Lanes.{chunk, put_chunk}
use Rattle.std.proofs.lemmas.Simd.{get_or-chunk, get_or-put_chunk_below, get_or-put_chunk_at, get_or-put_chunk_above}
use Rattle.sdh_parity.specs.Scrambling.{scrambling_byte}
use Rattle.sdh_parity.proofs.Mixing.{added_long, added_at, clear-at}
use Rattle.sdh_parity.proofs.through.step.Goals as goal
use Rattle.sdh_parity.proofs.through.step.Goals.{then-clear_after, else-clear_after}

-- a vector of the bytes, and the one that is put in its place
module _ (bytes new : List ℕ) (i k : ℕ) (room : i + 16 ≤ length bytes) (long : length new ≡ 16)
    (each : (j : ℕ) → j < 16 → get_or new j 0 ≡ bit_xor (get_or (chunk i 16 bytes) j 0) (scrambling_byte (k + j))) where
  old_at : (j : ℕ) → j < 16 → get_or (chunk i 16 bytes) j 0 ≡ get_or bytes (i + j) 0
  old_at j h = get_or-chunk i 16 bytes j 0 h

  new_at : (j : ℕ) → j < 16 → get_or new j 0 ≡ bit_xor (get_or bytes (i + j) 0) (scrambling_byte (k + j))
  new_at j h = each j h ∙ ap (λ z. bit_xor z (scrambling_byte (k + j))) (old_at j h)

  clear_at : (after : Bool) (j : ℕ) → j < 16 → get_or (if after then new else chunk i 16 bytes) j 0
      ≡ get_or (if after then put_chunk i bytes new else bytes) (i + j) 0
  clear_at after j h =
      clear-at after new (chunk i 16 bytes) (put_chunk i bytes new) bytes j (i + j)
      (sym (get_or-put_chunk_at i bytes new j 0 (omega arith) (omega arith))) (old_at j h)

pub returns-clause-below : goal.returns-clause-below
returns-clause-below c = λ m h. get_or-put_chunk_below c.args.i c.args.bytes.now _ m 0 h

pub returns-clause-inside : goal.returns-clause-inside
returns-clause-inside c = λ j h.
    get_or-put_chunk_at c.args.i c.args.bytes.now _ j 0 (omega (arith, c.keyed-new.ensures.len)) (omega (arith, c.keyed-new.ensures.len))
    ∙ new_at c.args.bytes.now c.keyed-new.result c.args.i c.args.k (omega arith) c.keyed-new.ensures.len c.keyed-new.ensures.each j h

pub returns-clause-above : goal.returns-clause-above
returns-clause-above c = λ m h. get_or-put_chunk_above c.args.i c.args.bytes.now _ m 0 (omega (arith, c.keyed-new.ensures.len))

pub returns-clause-long : goal.returns-clause-long
returns-clause-long c = added_long c.args.sum c.if-clear_after.result c.requires.sum c.if-clear_after.auto.result.0

pub returns-clause-sum : goal.returns-clause-sum
returns-clause-sum c = λ j h.
    let old = chunk c.args.i 16 c.args.bytes.now in
    let new = c.keyed-new.result in
    let is : c.if-clear_after.result ≡ (if c.args.clear_after then new else old) =
    elim c.if-clear_after.branch [
      | then-clear_after w ↦ w.result-is ∙ sym (ap (λ b. if b then new else old) w.if-clear_after.true)
      | else-clear_after w ↦ w.result-is ∙ sym (ap (λ b. if b then new else old) w.if-clear_after.false)
    ] in
    added_at c.args.sum c.if-clear_after.result j c.requires.sum c.if-clear_after.auto.result.0 h
    ∙ ap (bit_xor (get_or c.args.sum j 0)) (ap (λ l. get_or l j 0) is
    ∙ clear_at c.args.bytes.now new c.args.i c.args.k (omega arith) c.keyed-new.ensures.len c.keyed-new.ensures.each c.args.clear_after j h)
