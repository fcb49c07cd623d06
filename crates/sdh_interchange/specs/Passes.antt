-- A pass over the columns of a frame: what it reads, and what it has written.
use Rattle.std.specs.Prelude.{ℕ, ◌≡◌, ◌+◌, ◌*◌, ◌%◌, ◌⊎◌, ◌<◌, ◌≤◌, List, [], length, slice_index, slice_index_or}
use Rattle.std.specs.List.{list_any}
use Rattle.sdh_interchange.specs.declared.pass.Pass.{Pass}
use Rattle.sdh_interchange.specs.Choosing.{AreSources, is_passed, is_own, own_byte, picked_at}
use Rattle.sdh_interchange.specs.Lanes.{AreLanes}
use Rattle.sdh_interchange.specs.Tables.{cell}

-- what is true of every pass: it has two whole frames of N AU-4s, a source for each AU-4, and what was derived from the
-- sources
pub record IsPass (n : ℕ) (pass : Pass n) : Type 0 where
  pub rate : (n ≡ 4) ⊎ (n ≡ 16)
  pub first : length pass.inputs.now.first.now ≡ 2430 * n
  pub second : length pass.inputs.now.second.now ≡ 2430 * n
  pub sources : AreSources n pass.sources.now
  pub lanes : AreLanes n pass.sources.now pass.lanes.now
  pub passed : pass.passed ≡ list_any is_passed pass.sources.now
  pub owned : pass.owned ≡ list_any is_own pass.sources.now

-- byte i of a frame, by its source
abbrev pub byte_by_source : (n : ℕ) → Pass n → ℕ → ℕ
byte_by_source n pass i = picked_at n pass.sources.now pass.inputs.now.first.now pass.inputs.now.second.now pass.inputs.now.own.now i

-- the bytes from `from` on and before `to` come from their sources, and all others stay
pub record HasPassed (n : ℕ) (pass : Pass n) (from to : ℕ) (old new : List ℕ) : Type 0 where
  pub before : (i : ℕ) → i < from → slice_index new i ≡ slice_index old i
  pub inside : (i : ℕ) → from ≤ i → i < to → slice_index new i ≡ byte_by_source n pass i
  pub behind : (i : ℕ) → to ≤ i → slice_index new i ≡ slice_index old i

-- N vectors for the bytes from place `at` on; the lanes of the first `upto` payloads hold their bytes
pub record AreColumns (n upto : ℕ) (own : List (List ℕ)) (at : ℕ) (columns : List (List ℕ)) : Type 0 where
  pub rows : length columns ≡ n
  pub lanes : (k : ℕ) → k < n → length (slice_index_or columns k []) ≡ 16
  pub each : (k j : ℕ) → k < n → j < 16 → j % n < upto → cell columns k j ≡ own_byte n own (at + 16 * k + j)
