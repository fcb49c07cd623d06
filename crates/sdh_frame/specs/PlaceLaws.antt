-- Each payload place of an AU-4 has one index, and each pointer place as well, at either rate.
use Rattle.std.specs.Prelude.{ℕ, ◌≡◌, ◌*◌, ◌<◌, ◌≤◌}
use Rattle.sdh_ringmap.specs.declared.terms.Rate.{Rate}
use Rattle.sdh_frame.specs.declared.Field as field
use Rattle.sdh_frame.specs.declared.Field.TheVariants.{Pointer, Payload}
use Rattle.sdh_frame.specs.declared.Place.{Place}
use Rattle.sdh_ringmap.specs.Rates.{n_of}
use Rattle.sdh_frame.specs.Fields.{field_at, payload_place, place_of_pointer}

-- the place is in the frame
pub record IsInFrame (rate : Rate) (place : Place) : Type 0 where
  pub row : 1 ≤ place.row
  pub rows : place.row ≤ 9
  pub column : 1 ≤ place.column
  pub columns : place.column ≤ 270 * n_of rate

abbrev pub field_of : Rate → Place → field.Field
field_of rate place = field_at (n_of rate) place.row place.column

-- the place of payload byte j of an AU-4 is in the frame, and its field is that AU-4's payload
pub record IsPayloadPlace (rate : Rate) (au j : ℕ) : Type 0 where
  pub within : IsInFrame rate (payload_place (n_of rate) au j)
  pub there : field_of rate (payload_place (n_of rate) au j) ≡ Payload au

abbrev pub PayloadPlaces : Type 0
PayloadPlaces = (rate : Rate) (au j : ℕ) → 1 ≤ au → au ≤ n_of rate → j < 2349 → IsPayloadPlace rate au j

-- the place has one index in the payload of the AU-4
pub record HasPayloadIndex (rate : Rate) (place : Place) (au : ℕ) : Type 0 where
  pub au_low : 1 ≤ au
  pub au_high : au ≤ n_of rate
  pub j : ℕ
  pub small : j < 2349
  pub there : payload_place (n_of rate) au j ≡ place
  pub only : (k : ℕ) → k < 2349 → payload_place (n_of rate) au k ≡ place → k ≡ j

abbrev pub PayloadIndexes : Type 0
PayloadIndexes =
    (rate : Rate) (place : Place) (au : ℕ) → IsInFrame rate place → field_of rate place ≡ Payload au → HasPayloadIndex rate place au

-- the place of pointer byte p of an AU-4 is in the frame, and its field is that byte
pub record IsPointerPlace (rate : Rate) (au p : ℕ) : Type 0 where
  pub within : IsInFrame rate (place_of_pointer (n_of rate) au p)
  pub there : field_of rate (place_of_pointer (n_of rate) au p) ≡ Pointer au p

abbrev pub PointerPlaces : Type 0
PointerPlaces = (rate : Rate) (au p : ℕ) → 1 ≤ au → au ≤ n_of rate → p < 9 → IsPointerPlace rate au p

-- the place is that of pointer byte p of the AU-4, and no other byte of its pointer has it
pub record HasPointerIndex (rate : Rate) (place : Place) (au p : ℕ) : Type 0 where
  pub au_low : 1 ≤ au
  pub au_high : au ≤ n_of rate
  pub small : p < 9
  pub there : place_of_pointer (n_of rate) au p ≡ place
  pub only : (q : ℕ) → q < 9 → place_of_pointer (n_of rate) au q ≡ place → q ≡ p

abbrev pub PointerIndexes : Type 0
PointerIndexes =
    (rate : Rate) (place : Place) (au p : ℕ) → IsInFrame rate place → field_of rate place ≡ Pointer au p → HasPointerIndex rate place au p
