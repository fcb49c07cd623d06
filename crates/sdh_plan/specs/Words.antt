-- The words of a step, and the numbers among them. Their form is this project's own.
use Rattle.std.specs.Prelude.{ℕ, ◌+◌, ◌-◌, ◌*◌, Bool, true, false, ◌==◌, ◌&&◌, not, nat_le, if◌then◌else◌, List, [], ◌∷◌, length, Option}
use Rattle.std.specs.Prelude.{Some, None}
use Rattle.std.specs.List.{list_all, slice_split}

-- what stands between single spaces
abbrev pub words : List ℕ → List (List ℕ)
words text = slice_split (λ byte. byte == 32) text

-- the word has no bytes
abbrev pub is_empty : List ℕ → Bool
is_empty word = length word == 0

-- the byte is a decimal digit
abbrev pub is_digit : ℕ → Bool
is_digit byte = nat_le 48 byte && nat_le byte 57

-- the word begins as a number does: with no `0` before other bytes
abbrev pub is_led : List ℕ → Bool
is_led [] = false
is_led (d ∷ []) = true
is_led (d ∷ (e ∷ ds)) = not (d == 48)

-- the word is `0`, or decimal digits that don't begin with `0`
abbrev pub is_number : List ℕ → Bool
is_number word = is_led word && list_all is_digit word

-- the number that digits give after the digits of n
abbrev pub decimal_from : ℕ → List ℕ → ℕ
decimal_from n [] = n
decimal_from n (d ∷ ds) = decimal_from (10 * n + (d - 48)) ds

-- the number that a word is, where it is one from low to high
unfoldable pub numeral_in : ℕ → ℕ → List ℕ → Option ℕ
numeral_in low high word =
    if is_number word && nat_le low (decimal_from 0 word) && nat_le (decimal_from 0 word) high then Some (decimal_from 0 word) else None
