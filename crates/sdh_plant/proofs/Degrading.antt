-- A frame after a degraded fibre, byte by byte.
use Rattle.std.proofs.Common.{◌≡◌, ℕ, ◌+◌, ◌*◌, ◌/◌, ◌%◌, ◌<◌, ◌≤◌, Bool, true, false, List, [], ◌∷◌, length, get_or, refl, ap, sym, ◌∙◌}
use Rattle.std.proofs.Common.{arith, inl, inr}
use Rattle.std.specs.Prelude.{slice_index, bit_xor, if◌then◌else◌}
use Rattle.std.specs.Int.Bits.{xor_assoc, xor_self, xor_zero_r}
use Rattle.std.proofs.lemmas.Bool.{cases_lt}
use Rattle.std.proofs.lemmas.Bool.Decides.{nat_tests}
use Rattle.std.proofs.lemmas.List.{ext_get_or}
use Rattle.sdh_basics.specs.Indexed.{map_from}
use Rattle.sdh_basics.proofs.CellsLaws.{length-map_from, get_or-placed}
use Rattle.sdh_ringmap.specs.declared.terms.Rate.{Rate}
use Rattle.sdh_ringmap.specs.declared.terms.Rate.TheVariants.{Four, Sixteen}
use Rattle.sdh_ringmap.specs.Rates.{n_of}
use Rattle.sdh_plant.specs.Arrivals.{is_inverted, degraded_byte, degraded}

pub byte_inside : (rate : Rate) (k i x : ℕ) → k ≤ 3 * n_of rate → 1350 * n_of rate ≤ i → i < 1350 * n_of rate + k
    → degraded_byte (n_of rate) k i x ≡ bit_xor x 0x80
unfolding degraded_byte
byte_inside Four k i x few low high = grind (arith, nat_tests)
byte_inside Sixteen k i x few low high = grind (arith, nat_tests)

pub byte_before : (rate : Rate) (k i x : ℕ) → i < 1350 * n_of rate → degraded_byte (n_of rate) k i x ≡ x
unfolding degraded_byte
byte_before Four k i x high = grind (arith, nat_tests)
byte_before Sixteen k i x high = grind (arith, nat_tests)

pub byte_behind : (rate : Rate) (k i x : ℕ) → k ≤ 3 * n_of rate → 1350 * n_of rate + k ≤ i → degraded_byte (n_of rate) k i x ≡ x
unfolding degraded_byte
byte_behind Four k i x few low = grind (arith, nat_tests)
byte_behind Sixteen k i x few low = grind (arith, nat_tests)

-- a frame is the degraded one if the top bit of the first k bytes of row 6 is inverted in it, and nothing else
pub degraded-from : (rate : Rate) (k : ℕ) (old new : List ℕ) → k ≤ 3 * n_of rate → length new ≡ length old
    → ((i : ℕ) → i < 1350 * n_of rate → slice_index new i ≡ slice_index old i)
    → ((i : ℕ) → 1350 * n_of rate ≤ i → i < 1350 * n_of rate + k → slice_index new i ≡ bit_xor (slice_index old i) 0x80)
    → ((i : ℕ) → 1350 * n_of rate + k ≤ i → slice_index new i ≡ slice_index old i)
    → new ≡ degraded (n_of rate) k old
unfolding degraded
degraded-from rate k old new few len before inside behind =
    let is : (i : ℕ) → i < length old → get_or (degraded (n_of rate) k old) i 0 ≡ degraded_byte (n_of rate) k i (get_or old i 0) =
    λ i lt. get_or-placed (degraded_byte (n_of rate) k) old i 0 0 lt in
    ext_get_or 0 new (degraded (n_of rate) k old) (len ∙ sym (length-map_from (degraded_byte (n_of rate) k) 0 old)) (λ i lt. (
    let inside_old : i < length old = omega (arith, len) in
    elim (cases_lt i (1350 * n_of rate)) [
      | inl low ↦ before i low ∙ sym (is i inside_old ∙ byte_before rate k i _ low)
      | inr low ↦ elim (cases_lt i (1350 * n_of rate + k)) [
        | inl high ↦ inside i low high ∙ sym (is i inside_old ∙ byte_inside rate k i _ few low high)
        | inr far ↦ behind i far ∙ sym (is i inside_old ∙ byte_behind rate k i _ few far)
      ]
    ]))

inverted_twice : (b : Bool) (x : ℕ) → (if b then bit_xor (if b then bit_xor x 0x80 else x) 0x80 else (if b then bit_xor x 0x80 else x)) ≡ x
inverted_twice true x = xor_assoc x 0x80 0x80 ∙ ap (bit_xor x) (xor_self 0x80) ∙ xor_zero_r x
inverted_twice false x = refl

byte_twice : (n k i x : ℕ) → degraded_byte n k i (degraded_byte n k i x) ≡ x
unfolding degraded_byte
byte_twice n k i x = inverted_twice (is_inverted k (i / (270 * n) + 1) (i % (270 * n) + 1)) x

placed_twice : (f : ℕ → ℕ → ℕ) → ((i x : ℕ) → f i (f i x) ≡ x) → (i : ℕ) (xs : List ℕ) → map_from f i (map_from f i xs) ≡ xs
placed_twice f back i [] = refl
placed_twice f back i (x ∷ xs) =
    ap (λ y. y ∷ map_from f (i + 1) (map_from f (i + 1) xs)) (back i x) ∙ ap (λ l. x ∷ l) (placed_twice f back (i + 1) xs)

-- the same bits inverted again give back what was sent
pub degraded_twice : (n k : ℕ) (bytes : List ℕ) → degraded n k (degraded n k bytes) ≡ bytes
unfolding degraded
degraded_twice n k bytes = placed_twice (degraded_byte n k) (byte_twice n k) 0 bytes
