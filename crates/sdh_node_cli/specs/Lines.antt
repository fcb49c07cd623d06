-- Lines of a source, each of which ends with one newline byte.
use Rattle.std.specs.Prelude.{◌≢◌, ℕ, List, [], ◌∷◌, ◌++◌}
use Rattle.std.specs.List.{All}

-- no newline byte is among them
abbrev pub IsOneLine : List ℕ → Type 0
IsOneLine bytes = All (λ byte. byte ≢ 10) bytes

-- a line, with its newline byte
abbrev pub whole_line : List ℕ → List ℕ
whole_line line = line ++ (10 ∷ [])
