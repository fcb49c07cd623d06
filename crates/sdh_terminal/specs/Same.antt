-- When interpreters and generators are as before.
use Rattle.std.specs.Prelude.{ℕ, Bool, true, false, ◌&&◌, Option, List, [], ◌∷◌}
use Rattle.sdh_pointer.specs.declared.reading.Reading.{Reading}
use Rattle.sdh_pointer.specs.Reading.{same_reading}
use Rattle.sdh_pointer.specs.Sending.{same_sending}

-- two lists of readings have the same length and are equal, place by place
abbrev pub same_readings : List Reading → List Reading → Bool
same_readings [] [] = true
same_readings (a ∷ xs) (b ∷ ys) = same_reading a b && same_readings xs ys
same_readings [] (b ∷ ys) = false
same_readings (a ∷ xs) [] = false

-- two lists of generators' states have the same length and are equal, place by place
abbrev pub same_generators : List (Option ℕ) → List (Option ℕ) → Bool
same_generators [] [] = true
same_generators (a ∷ xs) (b ∷ ys) = same_sending a b && same_generators xs ys
same_generators [] (b ∷ ys) = false
same_generators (a ∷ xs) [] = false
