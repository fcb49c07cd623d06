-- Pieces of a frame, one after the other.
use Rattle.std.specs.Prelude.{ℕ, ◌≡◌, ◌+◌, ◌*◌, ◌%◌, ◌<◌, List, ◌++◌, length, slice_index}
use Rattle.sdh_basics.specs.Parity.{bip8}
use Rattle.sdh_basics.specs.Indexed.{map_from}
use Rattle.sdh_parity.specs.Scrambling.{scrambled_byte, scrambled}
use Rattle.sdh_parity.specs.Parity.{lane, bip_lanes}

-- the scrambled form of a piece that begins at byte i of its frame; the first `clear` bytes of the frame are not
-- scrambled
unfoldable pub scrambled_from : ℕ → ℕ → List ℕ → List ℕ
scrambled_from clear i bytes = map_from (scrambled_byte clear) i bytes

-- the number of bytes at the head of a frame that are not scrambled, and the number of its bytes that have passed
pub record Position : Type 0 where
  pub clear : ℕ
  pub at : ℕ

-- however a frame is cut into pieces, scrambling the pieces gives what scrambling the whole frame gives
pub record InPieces : Type 0 where
  pub whole : (clear : ℕ) (bytes : List ℕ) → scrambled_from clear 0 bytes ≡ scrambled clear bytes
  pub cut : (clear i : ℕ) (xs ys : List ℕ) → scrambled_from clear i (xs ++ ys)
      ≡ scrambled_from clear i xs ++ scrambled_from clear (i + length xs) ys

-- The BIP-24N of the bytes so far: the rate `n`, the 3N parities `sums`, and the number `next` of the parity to which
-- the next byte belongs, counted from 0.
pub record Running : Type 0 where
  pub n : ℕ
  pub next : ℕ
  pub sums : List ℕ

-- the BIP-24N after these bytes
unfoldable pub after_bytes : ℕ → List ℕ → Running
after_bytes n bytes = record { n = n; next = length bytes % (3 * n); sums = bip_lanes (3 * n) bytes }

-- the first m bytes of `sums` are the BIP of m bytes over `bytes`
abbrev pub HasLanes : ℕ → List ℕ → List ℕ → Type 0
HasLanes m bytes sums = (j : ℕ) → j < m → slice_index sums j ≡ bip8 (lane m j bytes)
