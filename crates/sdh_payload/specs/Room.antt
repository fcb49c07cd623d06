-- Room for the bytes of a payload, which is lent to be written.
use Rattle.std.specs.Prelude.{ℕ, List, ◌++◌, length, take, drop}
use Rattle.std.specs.Borrow.{Lends, MutBor, Fml, Array, u8}
use Rattle.sdh_payload.specs.contracts.cells.Cells.{the_row}

-- a room after these bytes were written at its start: it keeps its length, and after them its own bytes
unfoldable pub written : List ℕ → List ℕ → List ℕ
written room bytes = take (length room) (bytes ++ drop (length bytes) room)

-- the room is lent out of the cells; what it holds at the end becomes the bytes of the cells, with the length of the
-- room
abbrev pub LendsRoom : MutBor (List ℕ) → MutBor (List ℕ) → Fml
LendsRoom cells room = Lends the_row (Array u8 0) cells room (written room.now)
