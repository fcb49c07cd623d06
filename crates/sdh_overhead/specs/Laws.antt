-- What a receiving section finds in what a sending section wrote, and at which places of a frame it looks.
use Rattle.std.specs.Prelude.{ℕ, ◌≡◌, ◌↔◌, ◌+◌, ◌*◌, ◌≤◌, true, Option, Some, None, List, length, slice_index}
use Rattle.sdh_ringmap.specs.declared.terms.Rate.{Rate}
use Rattle.sdh_frame.specs.declared.Field.TheVariants.{A1, A2, B1, B2, K1, K2}
use Rattle.sdh_frame.specs.declared.Place.{Place}
use Rattle.sdh_frame.specs.Sizes.{size_of}
use Rattle.sdh_ringmap.specs.Rates.{n_of}
use Rattle.sdh_frame.specs.Fields.{index_of}
use Rattle.sdh_frame.specs.Aus.{au_of}
use Rattle.sdh_frame.specs.PlaceLaws.{IsInFrame, field_of}
use Rattle.sdh_overhead.specs.declared.Received.TheVariants.{Framed}
use Rattle.sdh_overhead.specs.Sections.{Parities, clear_frame, line_frame, parities_of, received_in, kept_after, opened, is_framed, byte_in}
use Rattle.sdh_overhead.specs.Sections.{b2_in}

-- there are no parities, or a byte B1 and 3N bytes B2
abbrev pub AreParities : ℕ → Option Parities → Type 0
AreParities n None = Unit {0}
AreParities n (Some last) = length last.b2 ≡ 3 * n

-- A receiving section that holds the sending section's parities, or no parities, reads what was written. The K bytes
-- come back, no bit is in violation, both sections then hold the same parities, and every AU-4 is as it was.
pub record ComesBack (rate : Rate) (sending receiving : Option Parities) (k1 k2 : ℕ) (bytes : List ℕ) : Type 0 where
  pub framed : received_in (n_of rate) receiving (line_frame (n_of rate) sending k1 k2 bytes) ≡ Framed k1 k2 0 0
  pub parities : kept_after (n_of rate) (line_frame (n_of rate) sending k1 k2 bytes)
      ≡ Some (parities_of (n_of rate) (clear_frame (n_of rate) sending k1 k2 bytes) (line_frame (n_of rate) sending k1 k2 bytes))
  pub frame : opened (n_of rate) (line_frame (n_of rate) sending k1 k2 bytes) ≡ clear_frame (n_of rate) sending k1 k2 bytes
  pub aus : (au : ℕ) → 1 ≤ au → au ≤ n_of rate → au_of (n_of rate) au (clear_frame (n_of rate) sending k1 k2 bytes)
      ≡ au_of (n_of rate) au bytes

-- the byte at a place
abbrev pub byte_of : Rate → List ℕ → Place → ℕ
byte_of rate bytes place = slice_index bytes (index_of (n_of rate) place)

-- every byte whose field is A1 is F6, and every byte whose field is A2 is 28
pub record HasFraming (rate : Rate) (bytes : List ℕ) : Type 0 where
  pub a1 : (place : Place) → IsInFrame rate place → field_of rate place ≡ A1 → byte_of rate bytes place ≡ 0xF6
  pub a2 : (place : Place) → IsInFrame rate place → field_of rate place ≡ A2 → byte_of rate bytes place ≡ 0x28

-- a receiving section reads exactly the bytes of the fields A1, A2, B1, B2, K1 and K2
pub record LooksAtFields (rate : Rate) (bytes : List ℕ) : Type 0 where
  pub framing : (is_framed (n_of rate) bytes ≡ true) ↔ HasFraming rate bytes
  pub b1 : (place : Place) → IsInFrame rate place → field_of rate place ≡ B1 → byte_of rate bytes place ≡ byte_in (n_of rate) bytes 2 1
  pub b2 : (place : Place) (i : ℕ) → IsInFrame rate place → field_of rate place ≡ B2 i
      → byte_of rate bytes place ≡ slice_index (b2_in (n_of rate) bytes) i
  pub k1 : (place : Place) → IsInFrame rate place → field_of rate place ≡ K1
      → byte_of rate bytes place ≡ byte_in (n_of rate) bytes 5 (3 * n_of rate + 1)
  pub k2 : (place : Place) → IsInFrame rate place → field_of rate place ≡ K2
      → byte_of rate bytes place ≡ byte_in (n_of rate) bytes 5 (6 * n_of rate + 1)

-- the fields are found in every frame, at either rate
abbrev pub FieldsAreFound : Type 0
FieldsAreFound = (rate : Rate) (bytes : List ℕ) → length bytes ≡ size_of rate → LooksAtFields rate bytes
