-- Lanes of a vector of sixteen bytes over whole columns of a frame, and what they read.
use Rattle.std.specs.Prelude.{ℕ, ◌≡◌, ◌+◌, ◌*◌, ◌-◌, ◌%◌, ◌⊎◌, ◌<◌, ◌≤◌, List, length, slice_index, slice_index_or}
use Rattle.sdh_interchange.specs.declared.choose.Source.{Source}
use Rattle.sdh_interchange.specs.declared.choose.Source.TheVariants.{First, Second, Own, Ones}
use Rattle.sdh_interchange.specs.declared.lanes.Lanes.{Lanes}
use Rattle.sdh_interchange.specs.Choosing.{own_byte, picked_at}

-- Lane j reads lane a of the first frame and lane b of the second, where 128 is none. It keeps the bits c of its own
-- lane of the payloads, and sets the bits o itself.
abbrev pub IsLane : ℕ → Source → ℕ → ℕ → ℕ → ℕ → ℕ → Type 0
IsLane n (First au) j a b c o = (a ≡ j - j % n + (au - 1)) × (a < 16) × (b ≡ 128) × (c ≡ 0) × (o ≡ 0)
IsLane n (Second au) j a b c o = (b ≡ j - j % n + (au - 1)) × (b < 16) × (a ≡ 128) × (c ≡ 0) × (o ≡ 0)
IsLane n (Own k) j a b c o = (j ≡ j - j % n + (k - 1)) × (c ≡ 0xFF) × (a ≡ 128) × (b ≡ 128) × (o ≡ 0)
IsLane n Ones j a b c o = (a ≡ 128) × (b ≡ 128) × (c ≡ 0) × (o ≡ 0xFF)

-- sixteen lanes, one by one, which keep bits of the first `upto` payloads only: of half of the N payloads or of all
pub record AreLanes (n : ℕ) (sources : List Source) (lanes : Lanes) : Type 0 where
  pub first_long : length lanes.first ≡ 16
  pub second_long : length lanes.second ≡ 16
  pub own_long : length lanes.own ≡ 16
  pub more_long : length lanes.more ≡ 16
  pub each : (j : ℕ) → j < 16 → IsLane n (slice_index_or sources (j % n) Ones) j (slice_index lanes.first j) (slice_index lanes.second j)
      (slice_index lanes.own j) (slice_index lanes.more j)
  pub few : (2 * lanes.upto ≡ n) ⊎ (lanes.upto ≡ n)
  pub below : (j : ℕ) → j < 16 → 1 ≤ slice_index lanes.own j → j % n < lanes.upto

-- x is what byte i gets besides the bytes of the two frames
abbrev pub IsExtra : ℕ → Source → List (List ℕ) → ℕ → ℕ → Type 0
IsExtra n (First au) own i x = x ≡ 0
IsExtra n (Second au) own i x = x ≡ 0
IsExtra n (Own k) own i x = x ≡ own_byte n own (i - i % n + (k - 1))
IsExtra n Ones own i x = x ≡ 0xFF

-- a vector of what the sixteen bytes from place `at` on get besides the bytes of the two frames
pub record AreExtra (n : ℕ) (sources : List Source) (own : List (List ℕ)) (at : ℕ) (extra : List ℕ) : Type 0 where
  pub long : length extra ≡ 16
  pub each : (j : ℕ) → j < 16 → IsExtra n (slice_index_or sources (j % n) Ones) own (at + j) (slice_index extra j)

-- byte i belongs to no own AU-4, or is a zero byte of one
abbrev pub IsPlain : ℕ → Source → List (List ℕ) → ℕ → Type 0
IsPlain n (First au) own i = Unit {0}
IsPlain n (Second au) own i = Unit {0}
IsPlain n (Own k) own i = own_byte n own (i - i % n + (k - 1)) ≡ 0
IsPlain n Ones own i = Unit {0}

-- a vector of the sixteen bytes from place `at` on, by their sources
pub record ArePicked (n : ℕ) (sources : List Source) (first second : List ℕ) (own : List (List ℕ)) (at : ℕ) (all : List ℕ) : Type 0 where
  pub long : length all ≡ 16
  pub each : (j : ℕ) → j < 16 → slice_index all j ≡ picked_at n sources first second own (at + j)
