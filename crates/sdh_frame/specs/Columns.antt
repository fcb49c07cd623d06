-- Columns of a frame in which some bytes are written. A column here is N consecutive bytes of one row, and the numbers
-- go on from row to row: 0 to 269 in the first row, 270 to 539 in the second, up to 2429.
use Rattle.std.specs.Prelude.{ℕ, ◌≡◌, ◌/◌, ◌<◌, ◌≤◌, Bool, if◌then◌else◌, List, slice_index}

-- In the columns from `from` on and before `to`, each byte i for which `is_meant` holds has the value `value i`. All
-- other bytes stay.
pub record HasWritten (n from to : ℕ) (is_meant : ℕ → Bool) (value : ℕ → ℕ) (old new : List ℕ) : Type 0 where
  pub inside : (i : ℕ) → from ≤ i / n → i / n < to → slice_index new i ≡ (if is_meant i then value i else slice_index old i)
  pub before : (i : ℕ) → i / n < from → slice_index new i ≡ slice_index old i
  pub behind : (i : ℕ) → to ≤ i / n → slice_index new i ≡ slice_index old i
