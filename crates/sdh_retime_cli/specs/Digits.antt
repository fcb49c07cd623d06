-- The program's word, and the chunks into which it cuts its input.
use Rattle.std.specs.Prelude.{◌≡◌, ℕ, zero, suc, ◌+◌, ◌-◌, ◌%◌, ◌≤◌, List, [], ◌∷◌, length, take, drop, get_or}
use Rattle.std.specs.List.{All}

-- a digit from `0` to `6`
abbrev pub IsDigit : ℕ → Type 0
IsDigit byte = (48 ≤ byte) × (byte ≤ 54)

-- a word of 1 to 64 digits
pub record IsDigits (word : List ℕ) : Type 0 where
  pub some : 1 ≤ length word
  pub few : length word ≤ 64
  pub each : All IsDigit word

-- the words are one word of digits
abbrev pub AreDigits : List (List ℕ) → Type 0
AreDigits words = (word : List ℕ) × (words ≡ word ∷ []) × IsDigits word

-- the number of bytes of chunk k, counted from 0: digit g means 2346 + g, and the digits repeat
abbrev pub size_at : List ℕ → ℕ → ℕ
size_at digits k = 2346 + (get_or digits (k % length digits) 48 - 48)

-- the number of bytes before chunk k
unfoldable pub offset_at : List ℕ → ℕ → ℕ
offset_at digits zero = 0
offset_at digits (suc k) = offset_at digits k + size_at digits k

-- the bytes of chunk k
abbrev pub chunk_at : List ℕ → List ℕ → ℕ → List ℕ
chunk_at digits bytes k = take (size_at digits k) (drop (offset_at digits k) bytes)

-- chunks 0 to k - 1 in a list that begins with chunk k - 1
unfoldable pub chunks : List ℕ → List ℕ → ℕ → List (List ℕ)
chunks digits bytes zero = []
chunks digits bytes (suc k) = chunk_at digits bytes k ∷ chunks digits bytes k
