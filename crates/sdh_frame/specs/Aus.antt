-- The AU-4s of a frame as lists (ITU-T G.707 clause 8.1): each has 9 pointer bytes and 2349 bytes of payload, and the
-- N AU-4s are byte-interleaved. An AU-4 is named by its number, 1 to N.
use Rattle.std.specs.Prelude.{ℕ, ◌+◌, ◌*◌, ◌-◌, ◌/◌, ◌%◌, ◌==◌, ◌&&◌, Bool, nat_le, nat_lt, if◌then◌else◌, List, [], ◌∷◌, slice_index}
use Rattle.std.specs.Prelude.{replicate}
use Rattle.sdh_basics.specs.Indexed.{map_from}
use Rattle.sdh_basics.specs.Cells.{cells}
use Rattle.sdh_frame.specs.Fields.{index_of, payload_place, place_of_pointer}

-- the payload, row by row
unfoldable pub payload_of : ℕ → ℕ → List ℕ → List ℕ
payload_of n au bytes = cells (λ j. slice_index bytes (index_of n (payload_place n au j))) 2349

-- the pointer bytes
unfoldable pub pointers_of : ℕ → ℕ → List ℕ → List ℕ
pointers_of n au bytes = cells (λ p. slice_index bytes (index_of n (place_of_pointer n au p))) 9

-- whether byte i of a frame is payload of the AU-4
abbrev pub is_payload : ℕ → ℕ → ℕ → Bool
is_payload n au i = ((i % n + 1) == au) && nat_le (9 * n) (i % (270 * n))

-- whether byte i of a frame belongs to the pointer of the AU-4
abbrev pub is_pointer : ℕ → ℕ → ℕ → Bool
is_pointer n au i = ((i % n + 1) == au) && (i / (270 * n) == 3) && nat_lt (i % (270 * n)) (9 * n)

-- byte i of a frame once this payload is in the AU-4; before that, byte i was x
unfoldable pub payload_byte : ℕ → ℕ → List ℕ → ℕ → ℕ → ℕ
payload_byte n au payload i x = if is_payload n au i then slice_index payload (261 * (i / (270 * n)) + (i % (270 * n) - 9 * n) / n) else x

-- the frame with this payload in the AU-4
unfoldable pub with_payload : ℕ → ℕ → List ℕ → List ℕ → List ℕ
with_payload n au payload bytes = map_from (payload_byte n au payload) 0 bytes

-- byte i of a frame once these pointer bytes are in the AU-4; before that, byte i was x
unfoldable pub pointer_byte : ℕ → ℕ → List ℕ → ℕ → ℕ → ℕ
pointer_byte n au pointers i x = if is_pointer n au i then slice_index pointers (i % (270 * n) / n) else x

-- the frame with these pointer bytes in the AU-4
unfoldable pub with_pointers : ℕ → ℕ → List ℕ → List ℕ → List ℕ
with_pointers n au pointers bytes = map_from (pointer_byte n au pointers) 0 bytes

-- an AU-4
pub record Au : Type 0 where
  pub pointers : List ℕ
  pub payload : List ℕ

abbrev pub au_of : ℕ → ℕ → List ℕ → Au
au_of n au bytes = record { pointers = pointers_of n au bytes; payload = payload_of n au bytes }

-- the frame with this AU-4 as number au
unfoldable pub with_au : ℕ → ℕ → Au → List ℕ → List ℕ
with_au n au is bytes = with_pointers n au is.pointers (with_payload n au is.payload bytes)

-- the frame with these AU-4s from number au on
abbrev pub with_aus : ℕ → ℕ → List Au → List ℕ → List ℕ
with_aus n au [] bytes = bytes
with_aus n au (is ∷ rest) bytes = with_aus n (au + 1) rest (with_au n au is bytes)

-- an AU-4 of ones, as AU-AIS
abbrev pub ones : Au
ones = record { pointers = replicate 9 0xFF; payload = replicate 2349 0xFF }
