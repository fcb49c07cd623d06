-- What reading did to the bytes that a source shows.
use Rattle.std.specs.Prelude.{◌≡◌, ◌<◌, ◌≤◌, ℕ, List, [], ◌∷◌, length, Option, Some, None}
use Rattle.std.specs.Io.KnownBytes.{Consumes, IsAtEnd}

-- exactly n bytes were taken
abbrev pub TakesCount : Option (List ℕ) → Option (List ℕ) → ℕ → Type 0
TakesCount old new n = (bytes : List ℕ) × (length bytes ≡ n) × Consumes old new bytes

-- fewer than n bytes were taken
abbrev pub TakesFewer : Option (List ℕ) → Option (List ℕ) → ℕ → Type 0
TakesFewer old new n = (bytes : List ℕ) × (length bytes < n) × Consumes old new bytes

-- the source shows the bytes that it has left, and they are at most n
abbrev pub TellsAtMost : Option (List ℕ) → ℕ → Type 0
TellsAtMost (Some bytes) n = length bytes ≤ n
TellsAtMost None n = ⊥

-- the next byte was taken, or there was none
abbrev pub TakesNext : Option (List ℕ) → Option (List ℕ) → Option ℕ → Type 0
TakesNext old new None = Consumes old new [] × IsAtEnd new
TakesNext old new (Some byte) = Consumes old new (byte ∷ [])
