-- Frames that are written and read row by row.
use Rattle.std.specs.Prelude.{ℕ, ◌≡◌, ◌+◌, ◌*◌, ◌<◌, ◌≤◌, true, Option, Some, None, List, [], ◌++◌, length, nat_le, if◌then◌else◌}
use Rattle.sdh_basics.specs.Indexed.{map_from}
use Rattle.sdh_basics.specs.Parity.{bip8}
use Rattle.sdh_ringmap.specs.Rates.{n_of}
use Rattle.sdh_parity.specs.Parity.{section_bytes}
use Rattle.sdh_parity.specs.Scrambling.{scrambled}
use Rattle.sdh_parity.specs.Pieces.{Position, Running, scrambled_from, after_bytes}
use Rattle.sdh_overhead.specs.Overhead.{byte_at}
use Rattle.sdh_overhead.specs.Sections.{Parities, UnderWay, SectionKept, holding, added_after, parities_of, is_framed, byte_in}
use Rattle.sdh_overhead.specs.Sections.{b1_violations, b2_violations}

-- the bytes of a sent frame from its byte i on, with its overhead, before scrambling
unfoldable pub clear_row : ℕ → Option Parities → ℕ → ℕ → ℕ → List ℕ → List ℕ
clear_row n last k1 k2 i bytes = map_from (byte_at n (added_after n last k1 k2)) i bytes

-- the bytes of a sent frame from its byte i on, as they are on the line
abbrev pub line_row : ℕ → Option Parities → ℕ → ℕ → ℕ → List ℕ → List ℕ
line_row n last k1 k2 i bytes = scrambled_from (9 * n) i (clear_row n last k1 k2 i bytes)

-- the number of bytes at the head of a row that B2 does not cover
abbrev pub skipped : ℕ → ℕ → ℕ
skipped n row = if nat_le row 3 then 9 * n else 0

-- what is kept of some rows of a frame: their bytes are `clear` before scrambling, and `line` on the line
pub record HavePassed (n : ℕ) (clear line : List ℕ) (u : UnderWay) : Type 0 where
  pub rows : length line ≡ u.rows * (270 * n)
  pub whole : length clear ≡ length line
  pub b1 : u.line ≡ bip8 line
  pub b2 : u.clear ≡ after_bytes n (section_bytes n clear)

-- some rows of a frame have passed, with these bytes; where no frame is under way there are none
abbrev pub ArePassed : ℕ → List ℕ → List ℕ → Option UnderWay → Type 0
ArePassed n clear line None = (clear ≡ []) × (line ≡ [])
ArePassed n clear line (Some u) = HavePassed n clear line u

-- A section that was `first` before a frame has written some rows of it and is `now`. The bytes of these rows are
-- `clear` before scrambling, and `line` on the line. After the ninth row the section holds the frame's parities.
pub record HasSent (first : SectionKept) (clear line : List ℕ) (now : SectionKept) : Type 0 where
  pub rate : now.rate ≡ first.rate
  pub fresh : first.under_way ≡ None
  pub under_way : length line < 2430 * n_of first.rate → (now.last ≡ first.last) × ArePassed (n_of first.rate) clear line now.under_way
  pub ended : length line ≡ 2430 * n_of first.rate → now ≡ holding first.rate (Some (parities_of (n_of first.rate) clear line))

-- What is true between rows: the scrambler stands at the next row, the parities are at the frame's rate, and before the
-- first row they are those of no bytes.
pub record IsPlaced (n passed : ℕ) (scrambler : Position) (line : ℕ) (clear : Running) : Type 0 where
  pub few : passed ≤ 9
  pub place : scrambler ≡ record { clear = 9 * n; at = passed * (270 * n) }
  pub rate : clear.n ≡ n
  pub fresh : passed ≡ 0 → (line ≡ bip8 []) × (clear ≡ after_bytes n [])

-- What is kept of some rows of a received framed frame. Their bytes are `clear` once descrambled, and `line` on the
-- line. It is their parities, and, once the row of each has passed, the violations and the K bytes.
pub record HasFound (n : ℕ) (last : Option Parities) (clear line : List ℕ) (u : UnderWay) : Type 0 where
  pub passed : HavePassed n clear line u
  pub b1 : 2 ≤ u.rows → u.b1 ≡ b1_violations n last clear
  pub b2 : 5 ≤ u.rows → u.b2 ≡ b2_violations n last clear
  pub k1 : 5 ≤ u.rows → u.k1 ≡ byte_in n clear 5 (3 * n + 1)
  pub k2 : 5 ≤ u.rows → u.k2 ≡ byte_in n clear 5 (6 * n + 1)

-- some rows of a frame, whose bytes on the line are `line`, were read by a section that held the parities `last` before
pub record HaveRead (n : ℕ) (last : Option Parities) (line : List ℕ) (u : UnderWay) : Type 0 where
  pub rows : length line ≡ u.rows * (270 * n)
  pub framed : u.framed ≡ is_framed n line
  pub found : is_framed n line ≡ true → HasFound n last (scrambled (9 * n) line) line u

-- some rows of a frame were read, with these bytes on the line; where no frame is under way there are none
abbrev pub AreRead : ℕ → Option Parities → List ℕ → Option UnderWay → Type 0
AreRead n last line None = line ≡ []
AreRead n last line (Some u) = HaveRead n last line u

-- a row after it was read, descrambled where the frame is framed; `line` has the rows before it as they are on the line
abbrev pub opened_row : ℕ → List ℕ → List ℕ → List ℕ
opened_row n line bytes = if is_framed n (line ++ bytes) then scrambled_from (9 * n) (length line) bytes else bytes
