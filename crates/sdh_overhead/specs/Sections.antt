-- A section: what it sends, what it finds in a received frame, and the parities that it keeps (ITU-T G.707 clause 9.2).
use Rattle.std.specs.Prelude.{ℕ, ◌≡◌, ◌+◌, ◌*◌, ◌==◌, ◌&&◌, Bool, true, false, Option, Some, None, List, take, slice_range, slice_index}
use Rattle.std.specs.Prelude.{replicate, if◌then◌else◌}
use Rattle.std.specs.List.{list_all}
use Rattle.sdh_basics.specs.Parity.{bip8}
use Rattle.sdh_ringmap.specs.declared.terms.Rate.{Rate}
use Rattle.sdh_frame.specs.Fields.{index_of}
use Rattle.sdh_parity.specs.Scrambling.{scrambled}
use Rattle.sdh_parity.specs.Parity.{section_parity}
use Rattle.sdh_parity.specs.Pieces.{Running}
use Rattle.sdh_parity.specs.Violations.{differing_bits, violations_of}
use Rattle.sdh_overhead.specs.Overhead.{Added, with_overhead}
use Rattle.sdh_overhead.specs.declared.Received.{Received}
use Rattle.sdh_overhead.specs.declared.rows.Rows.{Rows}
use Rattle.sdh_overhead.specs.declared.Received.TheVariants.{Framed, Unframed}

-- the parities of a frame
pub record Parities : Type 0 where
  pub b1 : ℕ
  pub b2 : List ℕ

-- the parities of a frame: B1 over all its bytes on the line, B2 over those of `section_bytes` without scrambling
unfoldable pub parities_of : ℕ → List ℕ → List ℕ → Parities
parities_of n clear line = record { b1 = bip8 line; b2 = section_parity n clear }

-- what is kept of the rows that have passed, where a frame is written or read row by row
pub record UnderWay : Type 0 where
  pub rows : ℕ
  -- BIP-8 of the rows' bytes on the line, and BIP-24N of those bytes, without scrambling, that B2 covers
  pub line : ℕ
  pub clear : Running
  -- whether the rows are of a frame that is written, and not of one that is read
  pub written : Bool
  -- of a received frame: whether it is framed, its K bytes, and in `b1` and `b2` the number of bits in which B1 and B2
  -- differ from the parities of the frame before
  pub framed : Bool
  pub k1 : ℕ
  pub k2 : ℕ
  pub b1 : ℕ
  pub b2 : ℕ

-- what these rows keep
abbrev pub under_way_in : Rows → UnderWay
under_way_in r = record {
  rows = r.passed;
  line = r.line;
  clear = r.clear;
  written = r.written;
  framed = r.framed;
  k1 = r.k1;
  k2 = r.k2;
  b1 = r.b1;
  b2 = r.b2;
}

-- what a section keeps: the parities of the last frame, or none, and a frame that is under way, if there is one
pub record SectionKept : Type 0 where
  pub rate : Rate
  pub last : Option Parities
  pub under_way : Option UnderWay

-- a section between frames, with these parities
abbrev pub holding : Rate → Option Parities → SectionKept
holding rate last = record { rate = rate; last = last; under_way = None }

-- the bytes B1 and B2 that are sent after a frame with these parities: zeros where there was no such frame
abbrev pub placed_after : ℕ → Option Parities → Parities
placed_after n None = record { b1 = 0; b2 = replicate (3 * n) 0 }
placed_after n (Some last) = last

-- the overhead bytes of a frame that is sent with these K bytes after a frame with these parities
abbrev pub added_after : ℕ → Option Parities → ℕ → ℕ → Added
added_after n last k1 k2 = record { k1 = k1; k2 = k2; b1 = (placed_after n last).b1; b2 = (placed_after n last).b2 }

-- the frame with all its overhead, before scrambling
unfoldable pub clear_frame : ℕ → Option Parities → ℕ → ℕ → List ℕ → List ℕ
clear_frame n last k1 k2 bytes = with_overhead n (added_after n last k1 k2) bytes

-- the frame with all its overhead, as it is on the line
abbrev pub line_frame : ℕ → Option Parities → ℕ → ℕ → List ℕ → List ℕ
line_frame n last k1 k2 bytes = scrambled (9 * n) (clear_frame n last k1 k2 bytes)

-- a frame is framed where all its bytes A1 and A2 have their values
unfoldable pub is_framed : ℕ → List ℕ → Bool
is_framed n bytes = list_all (λ x. x == 0xF6) (take (3 * n) bytes) && list_all (λ x. x == 0x28) (slice_range bytes (3 * n) (6 * n))

-- the byte at a row and column
abbrev pub byte_in : ℕ → List ℕ → ℕ → ℕ → ℕ
byte_in n bytes row column = slice_index bytes (index_of n (record { row = row; column = column }))

-- the bytes B2: row 5, columns 1 to 3 N
abbrev pub b2_in : ℕ → List ℕ → List ℕ
b2_in n bytes = slice_range bytes (1080 * n) (1083 * n)

-- the number of bits in which B1 of a frame differs from the parities of the frame before; 0 where these are not known
abbrev pub b1_violations : ℕ → Option Parities → List ℕ → ℕ
b1_violations n None clear = 0
b1_violations n (Some last) clear = differing_bits last.b1 (byte_in n clear 2 1)

-- the number of bits in which B2 of a frame differs from the parities of the frame before; 0 where these are not known
abbrev pub b2_violations : ℕ → Option Parities → List ℕ → ℕ
b2_violations n None clear = 0
b2_violations n (Some last) clear = violations_of last.b2 (b2_in n clear)

-- what a framed frame says, by its descrambled bytes
unfoldable pub found_in : ℕ → Option Parities → List ℕ → Received
found_in n last clear =
    Framed (byte_in n clear 5 (3 * n + 1)) (byte_in n clear 5 (6 * n + 1)) (b1_violations n last clear) (b2_violations n last clear)

-- what a received frame says, by its bytes on the line
unfoldable pub received_in : ℕ → Option Parities → List ℕ → Received
received_in n last line = if is_framed n line then found_in n last (scrambled (9 * n) line) else Unframed

-- the parities that are kept after a received frame: none where it is unframed
unfoldable pub kept_after : ℕ → List ℕ → Option Parities
kept_after n line = if is_framed n line then Some (parities_of n (scrambled (9 * n) line) line) else None

-- a received frame after it was read: descrambled where it is framed
unfoldable pub opened : ℕ → List ℕ → List ℕ
opened n line = if is_framed n line then scrambled (9 * n) line else line

-- the parities that a section holds, from its fields: none where they are not known
abbrev pub last_of : ℕ → Bool → ℕ → List ℕ → Option Parities
last_of n true b1 b2 = Some (record { b1 = b1; b2 = take (3 * n) b2 })
last_of n false b1 b2 = None

-- where a section has no parities its fields are zeros, which are sent as B1 and B2 of a first frame
abbrev pub IsBlank : Bool → ℕ → List ℕ → Type 0
IsBlank true b1 b2 = Unit {0}
IsBlank false b1 b2 = (b1 ≡ 0) × (b2 ≡ replicate 48 0)

-- the frame that is under way: none before its first row
abbrev pub under_way_of : UnderWay → Option UnderWay
under_way_of u = if u.rows == 0 then None else Some u

-- A row may be written where no row has passed, or where those that passed were written. It may be read where no row
-- has passed, or where those that passed were read.
abbrev pub MayWrite : Option UnderWay → Type 0
MayWrite None = Unit {0}
MayWrite (Some u) = u.written ≡ true

abbrev pub MayRead : Option UnderWay → Type 0
MayRead None = Unit {0}
MayRead (Some u) = u.written ≡ false

-- the number of the row that comes next
abbrev pub next_of : Option UnderWay → ℕ
next_of None = 1
next_of (Some u) = u.rows + 1
