-- Bits in which two lists of bytes differ.
use Rattle.std.specs.Prelude.{ℕ, ◌+◌, ◌==◌, List, [], ◌∷◌, not, count_by}
use Rattle.std.specs.List.{range_with_len}
use Rattle.std.specs.Int.{bit_at}

-- the number of bits, of eight, in which two bytes differ
unfoldable pub differing_bits : ℕ → ℕ → ℕ
differing_bits x y = count_by (λ j. not (bit_at x j == bit_at y j)) (range_with_len 0 8)

-- the number of bits in which two lists differ, byte by byte, up to the end of the shorter one
abbrev pub violations_of : List ℕ → List ℕ → ℕ
violations_of [] right = 0
violations_of (x ∷ left) [] = 0
violations_of (x ∷ left) (y ∷ right) = differing_bits x y + violations_of left right
