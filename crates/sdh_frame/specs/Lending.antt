-- What a frame is once its bytes were borrowed for writing. `the_row` is the contract's name for the type `FrameBuf`,
-- and has nothing to do with the rows of a frame.
use Rattle.std.specs.Prelude.{ℕ, List, ◌++◌, ◌+◌, ◌*◌, ◌-◌, take, drop, length}
use Rattle.std.specs.Borrow.{Lends, MutBor, Fml, u8, Array}
use Rattle.sdh_frame.specs.Sizes.{Frame}
use Rattle.sdh_ringmap.specs.Rates.{n_of}
use Rattle.sdh_frame.specs.contracts.FrameBuf.{the_row}

-- the frame with these bytes at its start; after them it keeps its own bytes, and its length stays
abbrev pub with_bytes : Frame → List ℕ → Frame
with_bytes f w = record { rate = f.rate; bytes = take (length f.bytes) (w ++ drop (length w) f.bytes) }

abbrev pub LendsBytes : MutBor Frame → MutBor (List ℕ) → Fml
LendsBytes s r = Lends the_row (Array u8 0) s r (with_bytes s.now)

-- the frame with this row as written: the bytes before the row, the written ones, and the bytes after them
abbrev pub with_row : Frame → ℕ → List ℕ → Frame
with_row f row written =
    let start = (row - 1) * (270 * n_of f.rate) in
    with_bytes f (take start f.bytes ++ (written ++ drop (start + length written) f.bytes))

abbrev pub LendsRow : ℕ → MutBor Frame → MutBor (List ℕ) → Fml
LendsRow row s r = Lends the_row (Array u8 0) s r (with_row s.now row)
