-- Vectors of sixteen lanes, one under the other.
use Rattle.std.specs.Prelude.{ℕ, ◌≡◌, ◌<◌, List, [], length, slice_index, slice_index_or}

-- lane j of vector i
abbrev pub cell : List (List ℕ) → ℕ → ℕ → ℕ
cell v i j = slice_index (slice_index_or v i []) j

-- n vectors of sixteen lanes each
pub record IsLaneTable (n : ℕ) (v : List (List ℕ)) : Type 0 where
  pub rows : length v ≡ n
  pub lanes : (i : ℕ) → i < n → length (slice_index_or v i []) ≡ 16
