-- Bytes that stand in others.
use Rattle.std.proofs.Common.{◌≡◌, ℕ, ◌+◌, ◌<◌, ◌≤◌, Bool, true, false, not, ◌&&◌, List, ◌++◌, length, get_or, take, drop, bytes_eq}
use Rattle.std.proofs.Common.{refl, sym, ap, ◌∙◌, arith, append_assoc}
use Rattle.std.specs.Prelude.{Option, Some, None, is_some}
use Rattle.std.specs.List.{range_with_len}
use Rattle.std.proofs.Math.Seq.{take-append_seam}
use Rattle.std.proofs.lemmas.Bool.{false_from_ne_true, and_right}
use Rattle.std.proofs.lemmas.List.{ext_get_or, take_all, length-take, length-drop, length-append, get_or-append-add, get_or_append_left}
use Rattle.std.proofs.lemmas.List.FromFn.{length-range_with_len, get_or-range_with_len}
use Rattle.std.proofs.lemmas.List.Folds.{list_any_at, list_any_none}
use Rattle.std.proofs.lemmas.Slice.Eq.{bytes_eq-Decides}
use Rattle.memchr.specs.Find.{OccursAt, Nowhere, FindsNeedle}
use Rattle.sdh_basics.proofs.Parts.{length-part, get_or-part}
use Rattle.sdh_payload.specs.declared.delivered.Delivered.{Delivered}
use Rattle.sdh_payload.specs.declared.delivered.Delivered.TheVariants.{Ais, Chunk}
use Rattle.sdh_outage.specs.Near.{is_part, front}
use Rattle.sdh_outage.specs.Kinds.{jumps}
use Rattle.sdh_outage.specs.Kept.{delivered, Stands}

-- ---- at a place

module _ (bytes others : List ℕ) where
  abbrev stands : ℕ → Bool
  stands place = bytes_eq bytes (take (length bytes) (drop place others))

  abbrev places : List ℕ
  places = range_with_len 0 (length others + 1)

  occurs_same : (k : ℕ) → OccursAt others bytes k → bytes ≡ take (length bytes) (drop k others)
  occurs_same k at =
      ext_get_or 0 bytes (take (length bytes) (drop k others)) (sym (length-part k (length bytes) others at.fits))
      (λ i h. sym (get_or-part k (length bytes) others i h ∙ at.reads i h))

  same_occurs : (k : ℕ) → k ≤ length others → bytes ≡ take (length bytes) (drop k others) → OccursAt others bytes k
  same_occurs k inside same = record {
    fits = omega (arith, ap length same, length-take (length bytes) (drop k others), length-drop k others);
    reads = λ i h. sym (get_or-part k (length bytes) others i h) ∙ ap (λ l. get_or l i 0) (sym same);
  }

  place_at : (k d : ℕ) → k < length others + 1 → get_or places k d ≡ k
  place_at k d h = get_or-range_with_len 0 (length others + 1) k d h ∙ (let e : 0 + k ≡ k = omega arith in e)

  pub part_at : (k : ℕ) → OccursAt others bytes k → is_part bytes others ≡ true
  unfolding is_part
  part_at k at =
      let below : k < length others + 1 = omega (arith, at.fits) in
      list_any_at stands places k 0 (omega (arith, length-range_with_len 0 (length others + 1)))
      (ap stands (place_at k 0 below) ∙ (bytes_eq-Decides bytes (take (length bytes) (drop k others))).1 (occurs_same k at))

  no_part : Nowhere (OccursAt others bytes) 0 (length others + 1) → is_part bytes others ≡ false
  unfolding is_part
  no_part nowhere =
      list_any_none stands places
      (λ k d h. (
      let below : k < length others + 1 = omega (arith, length-range_with_len 0 (length others + 1)) in
      ap stands (place_at k d below)
      ∙ false_from_ne_true (stands k) (λ t. nowhere k (omega arith) below
      (same_occurs k (omega arith) ((bytes_eq-Decides bytes (take (length bytes) (drop k others))).0 t)))))

  -- what a search answers
  pub part_found : (r : Option ℕ) → FindsNeedle others bytes 0 r → is_some r ≡ is_part bytes others
  part_found None nowhere = sym (no_part nowhere)
  part_found (Some k) found = sym (part_at k found.1)

-- a short chunk has nothing after its front
pub front_whole : (bytes : List ℕ) → length bytes ≤ 783 → bytes ≡ front bytes
front_whole bytes few = sym (take_all 783 bytes few)

-- ---- where some bytes stand

-- bytes that begin what is after a place
pub occurs_front : (bytes others more : List ℕ) (at : ℕ) → at ≤ length others → drop at others ≡ bytes ++ more → OccursAt others bytes at
occurs_front bytes others more at inside e =
    same_occurs bytes others at inside (sym (take-append_seam bytes more) ∙ ap (take (length bytes)) (sym e))

-- all bytes
pub occurs_whole : (bytes others : List ℕ) → bytes ≡ others → OccursAt others bytes 0
occurs_whole bytes others e =
    same_occurs bytes others 0 (omega arith) (e ∙ sym (take_all (length bytes) others (omega (arith, ap length e))))

-- the second part of bytes that stand in others stands there too
occurs_second : (first second others : List ℕ) (at : ℕ) → OccursAt others (first ++ second) at → OccursAt others second (at + length first)
occurs_second first second others at o = record {
  fits = omega (arith, o.fits, length-append first second);
  reads = λ i h. (
      let place : at + length first + i ≡ at + (length first + i) = omega arith in
      ap (λ k. get_or others k 0) place ∙ o.reads (length first + i) (omega (arith, h, length-append first second))
      ∙ get_or-append-add first second i 0);
}

-- the last one and a chunk after it
pub stands_at : (is_chunk : Bool) (last chunk others more : List ℕ) (at : ℕ) → at ≤ length others → drop at others ≡ last ++ (chunk ++ more)
    → Stands (delivered is_chunk last) chunk others
stands_at true last chunk others more at inside e =
    (at, occurs_front (last ++ chunk) others more at inside (e ∙ sym (append_assoc last chunk more)))
stands_at false last chunk others more at inside e = (
  at + length last,
  occurs_second last chunk others at (occurs_front (last ++ chunk) others more at inside (e ∙ sym (append_assoc last chunk more))),
)

-- bytes with other bytes before and after them stand in the whole
occurs_around : (bytes before others behind : List ℕ) (at : ℕ) → OccursAt others bytes at
    → OccursAt (before ++ (others ++ behind)) bytes (length before + at)
occurs_around bytes before others behind at o = record {
  fits = omega (arith, o.fits, length-append before (others ++ behind), length-append others behind);
  reads = λ i h. (
      let place : length before + at + i ≡ length before + (at + i) = omega arith in
      ap (λ k. get_or (before ++ (others ++ behind)) k 0) place ∙ get_or-append-add before (others ++ behind) (at + i) 0
      ∙ get_or_append_left others behind 0 (at + i) (omega (arith, h, o.fits)) ∙ o.reads i h);
}

pub stands_around : (last : Delivered) (chunk before others behind : List ℕ) → Stands last chunk others
    → Stands last chunk (before ++ (others ++ behind))
stands_around Ais chunk before others behind s = (length before + s.0, occurs_around chunk before others behind s.0 s.1)
stands_around (Chunk last) chunk before others behind s =
    (length before + s.0, occurs_around (last ++ chunk) before others behind s.0 s.1)

-- a chunk that stands there follows the last one
pub follows : (last : Delivered) (chunk others : List ℕ) → Stands last chunk others
    → (is_part chunk others ≡ true) × (jumps others last chunk ≡ false)
follows Ais chunk others s = (part_at chunk others s.0 s.1, refl)
follows (Chunk last) chunk others s = (
  part_at chunk others (s.0 + length last) (occurs_second last chunk others s.0 s.1),
  ap (λ b. is_part last others && not b) (part_at (last ++ chunk) others s.0 s.1) ∙ and_right (is_part last others) false refl,
)
