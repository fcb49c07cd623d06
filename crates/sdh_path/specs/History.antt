-- What a watch was given, the latest first, and the bytes that it is to report on.
use Rattle.std.specs.Prelude.{ℕ, ◌+◌, Bool, false, ◌==◌, if◌then◌else◌, List, [], ◌∷◌, ◌++◌}

-- the chunk that a port delivered in a round, with the pointer value with which it came; or AIS
pub data Given : Type 0 where
  Chunk : List ℕ → ℕ → Given
  Ais : Given

-- a chunk with this value goes on with what was given before: the item before it is a chunk with the same value
abbrev pub goes_on : ℕ → List Given → Bool
goes_on value [] = false
goes_on value (Ais ∷ earlier) = false
goes_on value (Chunk bytes last ∷ earlier) = last == value

-- The bytes of the chunks since the watch began anew, one after the other. A chunk that doesn't go on begins anew with
-- itself; AIS begins anew with no chunk.
abbrev pub bytes_of : List Given → List ℕ
bytes_of [] = []
bytes_of (Ais ∷ earlier) = []
bytes_of (Chunk bytes value ∷ earlier) = if goes_on value earlier then bytes_of earlier ++ bytes else bytes

-- the number of chunks since the watch began anew
abbrev pub count_of : List Given → ℕ
count_of [] = 0
count_of (Ais ∷ earlier) = 0
count_of (Chunk bytes value ∷ earlier) = if goes_on value earlier then count_of earlier + 1 else 1

-- the pointer value of the chunks since the watch began anew, and 0 where there are none
abbrev pub given_value : List Given → ℕ
given_value [] = 0
given_value (Ais ∷ earlier) = 0
given_value (Chunk bytes value ∷ earlier) = value
