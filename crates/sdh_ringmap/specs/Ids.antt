-- The identifiers of a ring map's nodes. This file names no type of the crate.
use Rattle.std.specs.Prelude.{ℕ, ◌≡◌, ◌≤◌, ◌<◌, List, length, slice_index}

-- The identifiers of a ring, by position: 2 to 16 nodes, each identifier 0 to 15, no two alike. This project's own
-- rule, after the node identifiers of ITU-T G.841, which have four bits.
pub record AreIds (ids : List ℕ) : Type 0 where
  pub few : length ids ≤ 16
  pub enough : 2 ≤ length ids
  pub small : (i : ℕ) → i < length ids → slice_index ids i < 16
  pub distinct : (i j : ℕ) → i < length ids → j < length ids → slice_index ids i ≡ slice_index ids j → i ≡ j
