-- AU-4s that are written one after the other.
use Rattle.std.proofs.Common.{◌≡◌, ℕ, zero, suc, ◌+◌, ◌*◌, ◌/◌, ◌%◌, ◌<◌, ◌≤◌, true, eqb, leb, List, [], ◌∷◌, length, get_or, refl}
use Rattle.std.proofs.Common.{ap, sym, ◌∙◌, arith, ◌⊎◌, inl, inr}
use Rattle.std.proofs.lemmas.Bool.{eq-eqb, le-leb, cases_eq, cases_lt}
use Rattle.sdh_ringmap.specs.declared.terms.Rate.{Rate}
use Rattle.sdh_ringmap.specs.declared.terms.Rate.TheVariants.{Four, Sixteen}
use Rattle.sdh_frame.specs.declared.Field as field
use Rattle.sdh_frame.specs.declared.Field.TheVariants.{Pointer, Payload}
use Rattle.sdh_frame.specs.declared.Place.{Place}
use Rattle.sdh_frame.specs.Sizes.{size_of}
use Rattle.sdh_ringmap.specs.Rates.{n_of}
use Rattle.sdh_frame.specs.Fields.{index_of}
use Rattle.sdh_frame.specs.Aus.{payload_byte, pointer_byte, Au, au_of, with_au, with_aus}
use Rattle.sdh_frame.specs.PlaceLaws.{IsInFrame}
use Rattle.sdh_frame.specs.AuLaws.{IsAu, IsOverhead, IsAuByte, WritingAllKeeps, WritingAllCovers}
use Rattle.sdh_frame.proofs.PlaceProofs.{IsPointerByte, IsAt, place_in, field-overhead}
use Rattle.sdh_frame.proofs.AuProofs.{au_byte, at_au, au_byte-kept, pointer_byte-here, length-with_au, au-with_au, au-with_au_other}

pub length-with_aus : (rate : Rate) (k : ℕ) (aus : List Au) (bytes : List ℕ) → length bytes ≡ size_of rate
    → length (with_aus (n_of rate) k aus bytes) ≡ size_of rate
length-with_aus rate k [] bytes whole = whole
length-with_aus rate k (au ∷ aus) bytes whole =
    length-with_aus rate (k + 1) aus (with_au (n_of rate) k au bytes) (length-with_au rate k au bytes whole)

-- an AU-4 before the first that is written
pub au-with_aus_before : (rate : Rate) (k m : ℕ) (aus : List Au) (bytes : List ℕ) → length bytes ≡ size_of rate → 1 ≤ m → m ≤ n_of rate
    → m < k → au_of (n_of rate) m (with_aus (n_of rate) k aus bytes) ≡ au_of (n_of rate) m bytes
au-with_aus_before rate k m [] bytes whole low high lt = refl
au-with_aus_before rate k m (au ∷ aus) bytes whole low high lt =
    au-with_aus_before rate (k + 1) m aus (with_au (n_of rate) k au bytes) (length-with_au rate k au bytes whole) low high (omega arith)
    ∙ au-with_au_other rate k m au bytes whole low high (λ e. omega arith)

-- each AU-4 that is written is found
pub au-with_aus : (rate : Rate) (k j : ℕ) (aus : List Au) (d : Au) (bytes : List ℕ) → length bytes ≡ size_of rate → 1 ≤ k
    → k + j ≤ n_of rate → j < length aus → IsAu (get_or aus j d)
    → au_of (n_of rate) (k + j) (with_aus (n_of rate) k aus bytes) ≡ get_or aus j d
au-with_aus rate k j [] d bytes whole low h lt is = absurd (omega arith)
au-with_aus rate k zero (au ∷ aus) d bytes whole low h lt is =
    ap (λ m. au_of (n_of rate) m (with_aus (n_of rate) (k + 1) aus (with_au (n_of rate) k au bytes))) (omega arith)
    ∙ au-with_aus_before rate (k + 1) k aus (with_au (n_of rate) k au bytes) (length-with_au rate k au bytes whole) low (omega arith)
    (omega arith)
    ∙ au-with_au rate k au bytes whole low (omega arith) is
au-with_aus rate k (suc j) (au ∷ aus) d bytes whole low h lt is =
    ap (λ m. au_of (n_of rate) m (with_aus (n_of rate) (k + 1) aus (with_au (n_of rate) k au bytes))) (omega arith)
    ∙ au-with_aus rate (k + 1) j aus d (with_au (n_of rate) k au bytes) (length-with_au rate k au bytes whole) (omega arith) (omega arith)
    (omega arith) is

-- ---- byte by byte

unfoldable pub aus_byte : ℕ → ℕ → List Au → ℕ → ℕ → ℕ
aus_byte n k [] i x = x
aus_byte n k (au ∷ aus) i x = aus_byte n (k + 1) aus i (au_byte n k au i x)

pub at_aus : (rate : Rate) (k : ℕ) (aus : List Au) (bytes : List ℕ) (i : ℕ) → length bytes ≡ size_of rate → i < size_of rate
    → get_or (with_aus (n_of rate) k aus bytes) i 0 ≡ aus_byte (n_of rate) k aus i (get_or bytes i 0)
unfolding aus_byte
at_aus rate k [] bytes i whole h = refl
at_aus rate k (au ∷ aus) bytes i whole h =
    at_aus rate (k + 1) aus (with_au (n_of rate) k au bytes) i (length-with_au rate k au bytes whole) h
    ∙ ap (aus_byte (n_of rate) (k + 1) aus i) (at_au rate k au bytes i whole h)

aus_byte-kept : (rate : Rate) (k : ℕ) (aus : List Au) (place : Place) (x : ℕ) → IsInFrame rate place → IsOverhead rate place
    → aus_byte (n_of rate) k aus (index_of (n_of rate) place) x ≡ x
unfolding aus_byte
aus_byte-kept rate k [] place x within none = refl
aus_byte-kept rate k (au ∷ aus) place x within none =
    aus_byte-kept rate (k + 1) aus place (au_byte (n_of rate) k au (index_of (n_of rate) place) x) within none
    ∙ au_byte-kept rate k au place within (none.no_payload k) (none.no_pointer k) x

payload_fixed : (n k : ℕ) (p : List ℕ) (i x y : ℕ) → i % n + 1 ≡ k → 9 * n ≤ i % (270 * n) → payload_byte n k p i x ≡ payload_byte n k p i y
unfolding payload_byte
payload_fixed n k p i x y at h = let a : eqb (i % n + 1) k ≡ true = eq-eqb _ _ at in let c : leb (9 * n) (i % (270 * n)) ≡ true =
    le-leb _ _ h in rw (a, c) refl

-- byte i of the frame is a pointer byte
record IsInPointers (n i : ℕ) : Type 0 where
  row : i / (270 * n) ≡ 3
  before : i % (270 * n) < 9 * n
  within : i < 2430 * n

-- a byte of an AU-4 that is written
covered : (n k : ℕ) (aus : List Au) (i x y : ℕ) → k ≤ i % n + 1 → i % n + 1 < k + length aus → (9 * n ≤ i % (270 * n)) ⊎ IsInPointers n i
    → aus_byte n k aus i x ≡ aus_byte n k aus i y
unfolding aus_byte au_byte
covered n k [] i x y low high part = absurd (omega arith)
covered n k (au ∷ aus) i x y low high (inl p) =
    elim (cases_eq (i % n + 1) k) [
      | inl at ↦ ap (aus_byte n (k + 1) aus i) (ap (pointer_byte n k au.pointers i) (payload_fixed n k au.payload i x y at p))
      | inr other ↦ covered n (k + 1) aus i (au_byte n k au i x) (au_byte n k au i y) (omega arith) (omega arith) (inl p)
    ]
covered n k (au ∷ aus) i x y low high (inr p) =
    elim (cases_eq (i % n + 1) k) [
      | inl at ↦ (
          let is : IsPointerByte n i (i % (270 * n) / n) k = record {
            row = p.row;
            before = p.before;
            number = at;
            within = p.within;
            back = refl;
          } in
          ap (aus_byte n (k + 1) aus i) (pointer_byte-here n k _ au.pointers i _ is ∙ sym (pointer_byte-here n k _ au.pointers i _ is)))
      | inr other ↦ covered n (k + 1) aus i (au_byte n k au i x) (au_byte n k au i y) (omega arith) (omega arith) (inr p)
    ]

-- the fields of AU-4s are those of payload columns and of row 4
pub au_part : (rate : Rate) (place : Place) → IsInFrame rate place → IsAuByte rate place → (9 * n_of rate < place.column) ⊎ (place.row ≡ 4)
au_part rate place within is =
    elim (cases_lt (9 * n_of rate) place.column) [
      | inl behind ↦ inl behind
      | inr before ↦ inr (four before is)
    ]
  where
    four : place.column ≤ 9 * n_of rate → IsAuByte rate place → place.row ≡ 4
    four before (inl p) =
        field-overhead (λ (f : field.Field). f ≡ Payload p.0 → place.row ≡ 4) (n_of rate) place.row place.column before (λ r e. r)
        (λ e. absurd (cc)) (λ e. absurd (cc)) (λ e. absurd (cc)) (λ e. absurd (cc)) (λ e. absurd (cc)) (λ e. absurd (cc)) (λ e. absurd (cc))
        (λ e. absurd (cc)) (λ e. absurd (cc)) p.1
    four before (inr p) =
        field-overhead (λ (f : field.Field). f ≡ Pointer p.0 p.1.0 → place.row ≡ 4) (n_of rate) place.row place.column before (λ r e. r)
        (λ e. absurd (cc)) (λ e. absurd (cc)) (λ e. absurd (cc)) (λ e. absurd (cc)) (λ e. absurd (cc)) (λ e. absurd (cc)) (λ e. absurd (cc))
        (λ e. absurd (cc)) (λ e. absurd (cc)) p.1.1

pub in_rate : (rate : Rate) (i : ℕ) → i % n_of rate < n_of rate
in_rate Four i = omega arith
in_rate Sixteen i = omega arith

part_at : (n i : ℕ) (place : Place) → IsAt n i place → (9 * n < place.column) ⊎ (place.row ≡ 4) → (9 * n ≤ i % (270 * n)) ⊎ IsInPointers n i
part_at n i place at (inl behind) = inl (omega (arith, at.column))
part_at n i place at (inr four) =
    elim (cases_lt (i % (270 * n)) (9 * n)) [
      | inl before ↦ inr (record { row = omega (arith, at.row); before = before; within = at.within })
      | inr behind ↦ inl behind
    ]

pub writing_all_keeps : WritingAllKeeps
writing_all_keeps rate aus bytes whole = record {
  size = length-with_aus rate 1 aus bytes whole;
  found = λ j none lt in_n is. au-with_aus rate 1 j aus none bytes whole (omega arith) (omega arith) lt is;
  kept =
      λ place within none. at_aus rate 1 aus bytes (index_of (n_of rate) place) whole (place_in rate place within).within
      ∙ aus_byte-kept rate 1 aus place _ within none;
}

pub writing_all_covers : WritingAllCovers
writing_all_covers rate aus bytes other place whole whole2 full within is =
    let n = n_of rate in
    let i = index_of n place in
    let at = place_in rate place within in
    at_aus rate 1 aus bytes i whole at.within
    ∙ covered n 1 aus i (get_or bytes i 0) (get_or other i 0) (omega arith) (omega (arith, in_rate rate i))
    (part_at n i place at (au_part rate place within is))
    ∙ sym (at_aus rate 1 aus other i whole2 at.within)
