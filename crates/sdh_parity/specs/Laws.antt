-- Descrambling is scrambling.
use Rattle.std.specs.Prelude.{ℕ, ◌≡◌, List, take}
use Rattle.sdh_parity.specs.Scrambling.{scrambled}

-- scrambling twice gives the bytes back
abbrev pub ScramblingIsUndone : Type 0
ScramblingIsUndone = (clear : ℕ) (bytes : List ℕ) → scrambled clear (scrambled clear bytes) ≡ bytes

-- scrambling leaves the first `clear` bytes as they are
abbrev pub ScramblingLeavesClear : Type 0
ScramblingLeavesClear = (clear : ℕ) (bytes : List ℕ) → take clear (scrambled clear bytes) ≡ take clear bytes
