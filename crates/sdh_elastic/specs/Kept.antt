-- Where the bytes held lie among the last three chunks taken in.
use Rattle.std.specs.Prelude.{◌≡◌, ℕ, ◌+◌, ◌≤◌, ◌⊎◌, List, [], ◌∷◌, length}

-- the last three chunks, of whose bytes the first `given` were given
pub record ChunksAreKept (a b c : List ℕ) (given : ℕ) : Type 0 where
  -- all bytes of the oldest chunk are given
  pub oldest : length a ≤ given
  pub there : given ≤ length a + (length b + length c)
  pub few : (length b ≤ 2352) × (length c ≤ 2352)
  -- the second chunk is empty, or the third one is a whole chunk
  pub whole : (length b ≡ 0) ⊎ (2346 ≤ length c)

-- these are the last three chunks, of whose bytes the first `given` were given
abbrev pub IsKept : List (List ℕ) → ℕ → Type 0
IsKept (a ∷ b ∷ c ∷ []) given = ChunksAreKept a b c given
IsKept chunks given = ⊥
