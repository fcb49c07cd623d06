-- Laws of writing AU-4s into a frame: what reads back, and what stays as it was.
use Rattle.std.specs.Prelude.{ℕ, ◌≡◌, ◌≢◌, ◌+◌, ◌<◌, ◌≤◌, List, length, slice_index, slice_index_or, ◌⊎◌}
use Rattle.sdh_ringmap.specs.declared.terms.Rate.{Rate}
use Rattle.sdh_frame.specs.declared.Field.TheVariants.{Pointer, Payload}
use Rattle.sdh_frame.specs.declared.Place.{Place}
use Rattle.sdh_frame.specs.Sizes.{size_of}
use Rattle.sdh_ringmap.specs.Rates.{n_of}
use Rattle.sdh_frame.specs.Fields.{index_of}
use Rattle.sdh_frame.specs.Aus.{Au, payload_of, pointers_of, with_payload, with_pointers, au_of, with_au, with_aus}
use Rattle.sdh_frame.specs.PlaceLaws.{IsInFrame, field_of}

-- an AU-4 has 9 pointer bytes and 2349 bytes of payload
pub record IsAu (is : Au) : Type 0 where
  pub pointers : length is.pointers ≡ 9
  pub payload : length is.payload ≡ 2349

-- What is true of a frame once this AU-4 was written as number au. The AU-4 reads back. Every byte outside it stays,
-- and so do all other AU-4s and all overhead.
pub record IsWritten (rate : Rate) (au : ℕ) (is : Au) (bytes : List ℕ) : Type 0 where
  pub size : length (with_au (n_of rate) au is bytes) ≡ size_of rate
  pub found : au_of (n_of rate) au (with_au (n_of rate) au is bytes) ≡ is
  pub others : (other : ℕ) → 1 ≤ other → other ≤ n_of rate → other ≢ au
      → au_of (n_of rate) other (with_au (n_of rate) au is bytes) ≡ au_of (n_of rate) other bytes
  pub kept : (place : Place) → IsInFrame rate place → field_of rate place ≢ Payload au → ((p : ℕ) → field_of rate place ≢ Pointer au p)
      → slice_index (with_au (n_of rate) au is bytes) (index_of (n_of rate) place) ≡ slice_index bytes (index_of (n_of rate) place)

abbrev pub WritingKeeps : Type 0
WritingKeeps =
    (rate : Rate) (au : ℕ) (is : Au) (bytes : List ℕ) → length bytes ≡ size_of rate → 1 ≤ au → au ≤ n_of rate → IsAu is
    → IsWritten rate au is bytes

-- Writing only the payload of an AU-4 is the same as writing the AU-4 with the pointer bytes that the frame has.
-- Writing only its pointer bytes is the same as writing it with the payload that the frame has.
pub record WritingOneList : Type 0 where
  pub payload : (rate : Rate) (au : ℕ) (payload bytes : List ℕ) → length bytes ≡ size_of rate → 1 ≤ au → au ≤ n_of rate
      → with_payload (n_of rate) au payload bytes ≡ with_au (n_of rate) au
      (record { pointers = pointers_of (n_of rate) au bytes; payload = payload }) bytes
  pub pointers : (rate : Rate) (au : ℕ) (pointers bytes : List ℕ) → length bytes ≡ size_of rate → 1 ≤ au → au ≤ n_of rate
      → with_pointers (n_of rate) au pointers bytes ≡ with_au (n_of rate) au
      (record { pointers = pointers; payload = payload_of (n_of rate) au bytes }) bytes

-- the field is no byte of an AU-4
pub record IsOverhead (rate : Rate) (place : Place) : Type 0 where
  pub no_payload : (au : ℕ) → field_of rate place ≢ Payload au
  pub no_pointer : (au p : ℕ) → field_of rate place ≢ Pointer au p

-- the field is a byte of an AU-4
abbrev pub IsAuByte : Rate → Place → Type 0
IsAuByte rate place = ((au : ℕ) × (field_of rate place ≡ Payload au)) ⊎ ((au : ℕ) × ((p : ℕ) × (field_of rate place ≡ Pointer au p)))

-- What is true of a frame once these AU-4s were written one after the other, from number 1 on: each reads back, and
-- overhead stays.
pub record AreWritten (rate : Rate) (aus : List Au) (bytes : List ℕ) : Type 0 where
  pub size : length (with_aus (n_of rate) 1 aus bytes) ≡ size_of rate
  pub found : (j : ℕ) (none : Au) → j < length aus → j < n_of rate → IsAu (slice_index_or aus j none)
      → au_of (n_of rate) (1 + j) (with_aus (n_of rate) 1 aus bytes) ≡ slice_index_or aus j none
  pub kept : (place : Place) → IsInFrame rate place → IsOverhead rate place
      → slice_index (with_aus (n_of rate) 1 aus bytes) (index_of (n_of rate) place) ≡ slice_index bytes (index_of (n_of rate) place)

abbrev pub WritingAllKeeps : Type 0
WritingAllKeeps = (rate : Rate) (aus : List Au) (bytes : List ℕ) → length bytes ≡ size_of rate → AreWritten rate aus bytes

-- once all AU-4s are written, none of their bytes depends on the frame's former bytes
abbrev pub WritingAllCovers : Type 0
WritingAllCovers =
    (rate : Rate) (aus : List Au) (bytes other : List ℕ) (place : Place) → length bytes ≡ size_of rate → length other ≡ size_of rate
    → length aus ≡ n_of rate → IsInFrame rate place → IsAuByte rate place
    → slice_index (with_aus (n_of rate) 1 aus bytes) (index_of (n_of rate) place)
    ≡ slice_index (with_aus (n_of rate) 1 aus other) (index_of (n_of rate) place)
