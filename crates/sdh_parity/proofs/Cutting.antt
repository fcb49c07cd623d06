-- Pieces of a frame.
use Rattle.std.proofs.Common.{◌≡◌, ℕ, ◌+◌, ◌-◌, ◌*◌, ◌/◌, ◌%◌, ◌<◌, ◌≤◌, ◌⊎◌, List, ◌++◌, length, get_or, take, drop, refl, ap, sym, ◌∙◌}
use Rattle.std.proofs.Common.{arith, inl, inr, bit_xor}
use Rattle.std.proofs.lemmas.Bool.{cases_lt}
use Rattle.std.proofs.lemmas.List.{ext_get_or, get_or_append_left, get_or-append_right}
use Rattle.std.proofs.lemmas.Grind.{common_steps}
use borrow.Rule.Slice.PartMut.{put_mid}
use Rattle.sdh_basics.proofs.Indexing.{map_from-append}
use Rattle.sdh_basics.proofs.CellsLaws.{length-map_from, get_or-map_from}
use Rattle.sdh_basics.proofs.Parts.{get_or-part, put_below, put_in}
use Rattle.sdh_parity.specs.Scrambling.{scrambling_byte, scrambled_byte, scrambled}
use Rattle.sdh_parity.specs.Pieces.{scrambled_from, InPieces}
use Rattle.sdh_parity.proofs.Scrambled.{byte-clear, byte-added}
use Rattle.sdh_parity.proofs.Table.{byte-repeats}

pub in-pieces : InPieces
unfolding scrambled_from scrambled
in-pieces = record { whole = λ clear bytes. refl; cut = λ clear i xs ys. map_from-append (scrambled_byte clear) i xs ys }

pub length-from : (clear i : ℕ) (bytes : List ℕ) → length (scrambled_from clear i bytes) ≡ length bytes
unfolding scrambled_from
length-from clear i bytes = length-map_from (scrambled_byte clear) i bytes

pub get_or-from : (clear i : ℕ) (bytes : List ℕ) (k : ℕ) → k < length bytes
    → get_or (scrambled_from clear i bytes) k 0 ≡ scrambled_byte clear (i + k) (get_or bytes k 0)
unfolding scrambled_from
get_or-from clear i bytes k h = get_or-map_from (scrambled_byte clear) i bytes k 0 0 h

-- a piece that is clear
pub clear-piece : (clear at : ℕ) (bytes : List ℕ) → at + length bytes ≤ clear → bytes ≡ scrambled_from clear at bytes
clear-piece clear at bytes h =
    ext_get_or 0 bytes (scrambled_from clear at bytes) (sym (length-from clear at bytes))
    (λ i lt. sym (get_or-from clear at bytes i lt ∙ byte-clear clear (at + i) _ (omega arith)))

-- a piece to which the sequence was added from a place on
pub added-piece : (clear at skip : ℕ) (old part : List ℕ) → skip ≤ length old → (skip ≡ 0) ⊎ (at + skip ≡ clear) → clear ≤ at + skip
    → length part ≡ length (take (length old - skip) (drop skip old))
    → ((k : ℕ) → k < length (take (length old - skip) (drop skip old))
    → get_or part k 0 ≡ bit_xor (get_or (take (length old - skip) (drop skip old)) k 0) (scrambling_byte (at + skip - clear + k)))
    → put_mid skip (length old - skip) old part ≡ scrambled_from clear at old
added-piece clear at skip old part room start past len each =
    let n : ℕ = length old - skip in
    let size : length (take n (drop skip old)) ≡ n = grind (arith, common_steps) in
    let all : length (put_mid skip n old part) ≡ length old = put_length skip n old part room (omega arith) (len ∙ size) in
    ext_get_or 0 (put_mid skip n old part) (scrambled_from clear at old) (all ∙ sym (length-from clear at old)) (λ i lt.
    (let h : i < length old = omega arith in
    elim (cases_lt i skip) [
      | inl below ↦ put_below skip n old part i below room ∙ sym
          (get_or-from clear at old i h ∙ byte-clear clear (at + i) _ (before below start))
      | inr above ↦
          let j : ℕ = i - skip in
          let e : skip + j ≡ i = omega arith in
          let jp : j < length part = omega arith in
          let jm : j < length (take n (drop skip old)) = omega arith in
          let jn : j < n = omega arith in
          let place : at + skip - clear + j ≡ at + i - clear = omega arith in
          ap (λ k. get_or (put_mid skip n old part) k 0) (sym e) ∙ put_in skip n old part j jp room ∙ each j jm
          ∙ ap (λ x. bit_xor x (scrambling_byte (at + skip - clear + j))) (get_or-part skip n old j jn ∙ ap (λ k. get_or old k 0) e)
          ∙ ap (λ k. bit_xor (get_or old i 0) (scrambling_byte k)) place
          ∙ sym (get_or-from clear at old i h ∙ byte-added clear (at + i) _ (omega arith))
    ]))
  where
    put_length : (a n : ℕ) (s part : List ℕ) → a ≤ length s → a + n ≡ length s → length part ≡ n → length (put_mid a n s part) ≡ length s
    put_length a n s part h e l = grind (arith, common_steps)

    before : {i : ℕ} → i < skip → (skip ≡ 0) ⊎ (at + skip ≡ clear) → at + i < clear
    before h (inl e) = absurd (omega arith)
    before h (inr e) = omega arith

-- the sequence from a place on, added up to the end of the block of 1016 bytes and then from the start of the next one
pub two-parts : (p first : ℕ) (old head rest : List ℕ) → (first ≡ length old) ⊎ (first ≡ 1016 - p % 1016) → first ≤ length old
    → length head ≡ first
    → ((k : ℕ) → k < first → get_or head k 0 ≡ bit_xor (get_or old k 0) (scrambling_byte (p % 1016 + k)))
    → ((k : ℕ) → k < length old - first → get_or rest k 0 ≡ bit_xor (get_or old (first + k) 0) (scrambling_byte k))
    → (k : ℕ) → k < length old → get_or (head ++ rest) k 0 ≡ bit_xor (get_or old k 0) (scrambling_byte (p + k))
two-parts p first old head rest which room len each later k h =
    elim (cases_lt k first) [
      | inl below ↦ (
          let e : p / 1016 * 1016 + (p % 1016 + k) ≡ p + k = omega arith in
          get_or_append_left head rest 0 k (omega arith) ∙ each k below
          ∙ ap (bit_xor (get_or old k 0)) (sym (byte-repeats (p / 1016) (p % 1016 + k)) ∙ ap scrambling_byte e))
      | inr above ↦ (
          let j : ℕ = k - first in
          let whole : first ≡ 1016 - p % 1016 = elim which [ inl e ↦ absurd (omega arith) | inr e ↦ e ] in
          let e : (p / 1016 + 1) * 1016 + j ≡ p + k = omega arith in
          let f : first + j ≡ k = omega arith in
          get_or-append_right head rest first k 0 len above ∙ later j (omega arith)
          ∙ ap (λ m. bit_xor (get_or old m 0) (scrambling_byte j)) f
          ∙ ap (bit_xor (get_or old k 0)) (sym (byte-repeats (p / 1016 + 1) j) ∙ ap scrambling_byte e))
    ]

-- a piece after the clear bytes to which the sequence was added
pub passed-piece : (clear off : ℕ) (old new : List ℕ) → clear ≤ off → length new ≡ length old
    → ((i : ℕ) → i < length old → get_or new i 0 ≡ bit_xor (get_or old i 0) (scrambling_byte (off - clear + i)))
    → new ≡ scrambled_from clear off old
passed-piece clear off old new behind len each =
    ext_get_or 0 new (scrambled_from clear off old) (len ∙ sym (length-from clear off old)) (λ i lt.
    (let h : i < length old = omega arith in
    let e : off - clear + i ≡ off + i - clear = omega arith in
    each i h ∙ ap (λ k. bit_xor (get_or old i 0) (scrambling_byte k)) e
    ∙ sym (get_or-from clear off old i h ∙ byte-added clear (off + i) _ (omega arith))))
