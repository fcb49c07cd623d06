-- Payloads that are kept once they have been taken out of a frame.
use Rattle.std.specs.Prelude.{◌≡◌, ◌+◌, ◌*◌, ◌-◌, ◌/◌, ◌<◌, ◌≤◌, ◌⊎◌, ℕ, Bool, true, false, List, [], length, replicate, slice_index}
use Rattle.std.specs.Prelude.{slice_index_or}
use Rattle.sdh_frame.specs.Sizes.{Frame}
use Rattle.sdh_ringmap.specs.Rates.{n_of}
use Rattle.sdh_frame.specs.Fields.{index_of, payload_place}
use Rattle.sdh_frame.specs.Aus.{payload_of}
use Rattle.sdh_interchange.specs.Tables.{cell}

-- ---- cells, by their places

-- `count` cells from place `from` on have room for a payload each
pub record HaveRoom (from count : ℕ) (cells : List (List ℕ)) : Type 0 where
  pub many : from + count ≤ length cells
  pub each : (a : ℕ) → a < count → length (slice_index_or cells (from + a) []) ≡ 2349

-- only the `count` cells from place `from` on may have changed, and each cell has as many bytes as before
pub record KeepsOthers (from count : ℕ) (old new : List (List ℕ)) : Type 0 where
  pub many : length new ≡ length old
  pub lengths : (a : ℕ) → length (slice_index_or new a []) ≡ length (slice_index_or old a [])
  pub others : (a : ℕ) → (a < from) ⊎ (from + count ≤ a) → slice_index_or new a [] ≡ slice_index_or old a []

-- Of the N / 2 payloads after the first `base`, the bytes from `from` on and before `to` have been taken out of a frame
-- of N AU-4s. Their bytes before `from`, and all other cells, are as they were.
pub record HasTaken (n base from to : ℕ) (bytes : List ℕ) (old new : List (List ℕ)) : Type 0 where
  pub before : (a j : ℕ) → a < n / 2 → j < from → cell new (base + a) j ≡ cell old (base + a) j
  pub inside : (a j : ℕ) → a < n / 2 → from ≤ j → j < to → cell new (base + a) j
      ≡ slice_index bytes (index_of n (payload_place n (base + a + 1) j))
  pub keeps : KeepsOthers base (n / 2) old new

-- ---- what has been taken

pub record Held : Type 0 where
  -- N / 2, the number of AU-4s in a half
  pub half : ℕ
  -- by the number of the AU-4, less one: whether its payload is held, and the bytes
  pub here : List Bool
  pub payloads : List (List ℕ)

-- what is held before the first frame: no payload
abbrev pub none_taken : Held
none_taken = record { half = 0; here = replicate 16 false; payloads = replicate 16 [] }

-- whether the payload of an AU-4 is held
abbrev pub has : Held → ℕ → Bool
has held au = slice_index_or held.here (au - 1) false

-- the payloads that are held are this frame's
pub record IsOf (frame : Frame) (held : Held) : Type 0 where
  pub rate : 2 * held.half ≡ n_of frame.rate
  pub each : (au : ℕ) → 1 ≤ au → au ≤ 2 * held.half → has held au ≡ true
      → slice_index_or held.payloads (au - 1) [] ≡ payload_of (n_of frame.rate) au frame.bytes
