-- Steady runs: each four turns in a row together take in about four frames' bytes. A list of lengths gives the number
-- of bytes that each turn so far took in, the last one first.
use Rattle.std.specs.Prelude.{ℕ, ◌+◌, Bool, true, ◌&&◌, nat_le, List, [], ◌∷◌}
use Rattle.sdh_elastic.specs.declared.lengths.Lengths.{Lengths}
use Rattle.sdh_elastic.specs.declared.lengths.Lengths.TheVariants.{Empty, One, Two, Three}

-- four chunks of these lengths have about four frames' bytes: 9393 to 9399
abbrev pub are_four : ℕ → ℕ → ℕ → ℕ → Bool
are_four a b c d = nat_le 9393 (a + b + c + d) && nat_le (a + b + c + d) 9399

-- the last four turns, where there are four, took in about four frames' bytes
abbrev pub is_last_steady : List ℕ → Bool
is_last_steady (a ∷ b ∷ c ∷ d ∷ earlier) = are_four a b c d
is_last_steady _ = true

-- each four turns in a row together took in about four frames' bytes
abbrev pub is_steady : List ℕ → Bool
is_steady [] = true
is_steady (n ∷ earlier) = is_steady earlier && is_last_steady (n ∷ earlier)

-- ---- the last three lengths

-- the last three lengths, or all where there are fewer
abbrev pub last_lengths : List ℕ → Lengths
last_lengths [] = Empty
last_lengths (a ∷ []) = One a
last_lengths (a ∷ b ∷ []) = Two a b
last_lengths (a ∷ b ∷ c ∷ earlier) = Three a b c

-- the last three lengths after one more turn, which takes in n bytes
abbrev pub with_length : ℕ → Lengths → Lengths
with_length n Empty = One n
with_length n (One a) = Two n a
with_length n (Two a b) = Three n a b
with_length n (Three a b c) = Three n a b

-- whether a run stays steady with one more turn, which takes in n bytes
abbrev pub keeps_steady : ℕ → Lengths → Bool
keeps_steady n Empty = true
keeps_steady n (One a) = true
keeps_steady n (Two a b) = true
keeps_steady n (Three a b c) = are_four n a b c
