-- A frame all of whose AU-4s are written doesn't depend on what stood in its buffer.
use Rattle.std.proofs.Common.{◌≡◌, ℕ, ◌+◌, ◌*◌, ◌/◌, ◌%◌, ◌<◌, List, Option, length, get_or, refl, ap, sym, ◌∙◌, arith, inl, inr}
use Rattle.std.proofs.lemmas.List.{ext_get_or}
use Rattle.sdh_basics.proofs.CellsLaws.{length-map_from, get_or-placed}
use Rattle.sdh_ringmap.specs.declared.terms.Rate.{Rate}
use Rattle.sdh_ringmap.specs.declared.terms.Rate.TheVariants.{Four, Sixteen}
use Rattle.sdh_frame.specs.declared.Place.{Place}
use Rattle.sdh_frame.specs.declared.Field as field
use Rattle.sdh_frame.specs.declared.Field.TheVariants.{A1, A2, J0, Fixed, B1, B2, K1, K2, Unused, Pointer, Payload}
use Rattle.sdh_frame.specs.Sizes.{size_of}
use Rattle.sdh_ringmap.specs.Rates.{n_of}
use Rattle.sdh_frame.specs.Fields.{index_of}
use Rattle.sdh_frame.specs.Aus.{Au, with_aus}
use Rattle.sdh_frame.specs.PlaceLaws.{IsInFrame, field_of}
use Rattle.sdh_frame.proofs.AllAus.{length-with_aus, writing_all_covers}
use Rattle.sdh_parity.specs.Scrambling.{scrambled}
use Rattle.sdh_overhead.specs.Overhead.{Added, written, byte_at, with_overhead}
use Rattle.sdh_overhead.specs.Sections.{Parities, added_after, clear_frame, line_frame}

-- overhead is written whatever stood there
fixed : (a : Added) (x y : ℕ) (f : field.Field) → ((au : ℕ) → f ≡ Payload au → x ≡ y) → ((au p : ℕ) → f ≡ Pointer au p → x ≡ y)
    → written a f x ≡ written a f y
fixed a x y A1 p q = refl
fixed a x y A2 p q = refl
fixed a x y J0 p q = refl
fixed a x y Fixed p q = refl
fixed a x y B1 p q = refl
fixed a x y (B2 i) p q = refl
fixed a x y K1 p q = refl
fixed a x y K2 p q = refl
fixed a x y Unused p q = refl
fixed a x y (Pointer au i) p q = q au i refl
fixed a x y (Payload au) p q = p au refl

-- the place of a byte
abbrev place_at : ℕ → ℕ → Place
place_at n i = record { row = i / (270 * n) + 1; column = i % (270 * n) + 1 }

index_back : (rate : Rate) (i : ℕ) → index_of (n_of rate) (place_at (n_of rate) i) ≡ i
index_back Four i = omega arith
index_back Sixteen i = omega arith

in_frame : (rate : Rate) (i : ℕ) → i < size_of rate → IsInFrame rate (place_at (n_of rate) i)
in_frame Four i h = record { row = omega arith; rows = omega arith; column = omega arith; columns = omega arith }
in_frame Sixteen i h = record { row = omega arith; rows = omega arith; column = omega arith; columns = omega arith }

module _ (rate : Rate) (a : Added) (aus : List Au) (old other : List ℕ) (whole : length old ≡ size_of rate)
    (whole2 : length other ≡ size_of rate) (full : length aus ≡ n_of rate) where
  same_byte : (i : ℕ) → i < size_of rate → byte_at (n_of rate) a i (get_or (with_aus (n_of rate) 1 aus old) i 0)
      ≡ byte_at (n_of rate) a i (get_or (with_aus (n_of rate) 1 aus other) i 0)
  same_byte i h =
      let n = n_of rate in
      let place = place_at n i in
      let at = index_back rate i in
      let within = in_frame rate i h in
      fixed a (get_or (with_aus n 1 aus old) i 0) (get_or (with_aus n 1 aus other) i 0) (field_of rate place)
      (λ au e. ap (λ k. get_or (with_aus n 1 aus old) k 0) (sym at)
      ∙ writing_all_covers rate aus old other place whole whole2 full within (inl (au, e))
      ∙ ap (λ k. get_or (with_aus n 1 aus other) k 0) at)
      (λ au p e. ap (λ k. get_or (with_aus n 1 aus old) k 0) (sym at)
      ∙ writing_all_covers rate aus old other place whole whole2 full within (inr (au, (p, e)))
      ∙ ap (λ k. get_or (with_aus n 1 aus other) k 0) at)

  alone : with_overhead (n_of rate) a (with_aus (n_of rate) 1 aus old) ≡ with_overhead (n_of rate) a (with_aus (n_of rate) 1 aus other)
  unfolding with_overhead
  alone =
      let n = n_of rate in
      let b1 = with_aus n 1 aus old in
      let b2 = with_aus n 1 aus other in
      let l1 : length b1 ≡ size_of rate = length-with_aus rate 1 aus old whole in
      let l2 : length b2 ≡ size_of rate = length-with_aus rate 1 aus other whole2 in
      ext_get_or 0 (with_overhead n a b1) (with_overhead n a b2)
      (length-map_from (byte_at n a) 0 b1 ∙ l1 ∙ sym l2 ∙ sym (length-map_from (byte_at n a) 0 b2))
      (λ i lt. (let h : i < size_of rate = omega (arith, length-map_from (byte_at n a) 0 b1) in
      get_or-placed (byte_at n a) b1 i 0 0 (omega arith) ∙ same_byte i h ∙ sym (get_or-placed (byte_at n a) b2 i 0 0 (omega arith))))

module _ (rate : Rate) (last : Option Parities) (k1 k2 : ℕ) (aus : List Au) (old other : List ℕ) (whole : length old ≡ size_of rate)
    (whole2 : length other ≡ size_of rate) (full : length aus ≡ n_of rate) where
  -- without scrambling
  pub clear_alone : clear_frame (n_of rate) last k1 k2 (with_aus (n_of rate) 1 aus old)
      ≡ clear_frame (n_of rate) last k1 k2 (with_aus (n_of rate) 1 aus other)
  unfolding clear_frame
  clear_alone = alone rate (added_after (n_of rate) last k1 k2) aus old other whole whole2 full

  -- on the line
  pub line_alone : line_frame (n_of rate) last k1 k2 (with_aus (n_of rate) 1 aus old)
      ≡ line_frame (n_of rate) last k1 k2 (with_aus (n_of rate) 1 aus other)
  line_alone = ap (scrambled (9 * n_of rate)) clear_alone
