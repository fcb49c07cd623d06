-- The customer's stream: VC-4s one after the other (path overhead and container: ITU-T G.707 clause 9.3). That they are
-- numbered from 0, and that a text fills them, is this project's own.
use Rattle.std.specs.Prelude.{ℕ, zero, suc, ◌+◌, ◌-◌, ◌*◌, ◌/◌, ◌%◌, List, [], ◌∷◌, ◌++◌, length, replicate, ◌==◌, if◌then◌else◌}
use Rattle.std.specs.Prelude.{slice_index}
use Rattle.sdh_basics.specs.Parity.{bip8}
use Rattle.sdh_basics.specs.Cells.{cells}
use Rattle.sdh_payload.specs.Customer.{Customer}

-- a trace padded with spaces to 64 bytes
unfoldable pub padded : List ℕ → List ℕ
padded trace = trace ++ replicate (64 - length trace) 0x20

-- the first column of VC-4 number v, the path overhead, from the top: J1 (a byte of the trace in each VC-4), B3, C2,
-- G1, F2, H4, F3, K3, N1
abbrev pub path_overhead : List ℕ → ℕ → ℕ → List ℕ
path_overhead trace b3 v = slice_index (padded trace) (v % 64) ∷ b3 ∷ 1 ∷ 0 ∷ 0 ∷ 0 ∷ 0 ∷ 0 ∷ 0 ∷ []

-- the place, in the text repeated without end, of the byte in this row and column of VC-4 number v: 2340 bytes a VC-4
-- and 260 a row, without the first column
abbrev pub text_place : ℕ → ℕ → ℕ → ℕ
text_place v row column = 2340 * v + 260 * row + column - 1

-- the byte in this row and column, both counted from 0, of VC-4 number v, where b3 is its B3
abbrev pub vc4_byte_at : Customer → ℕ → ℕ → ℕ → ℕ → ℕ
vc4_byte_at port b3 v row column =
    if column == 0 then slice_index (path_overhead port.trace b3 v) row
    else slice_index port.text (text_place v row column % length port.text)

-- byte i of VC-4 number v: nine rows of 261 columns, row by row
unfoldable pub vc4_byte : Customer → ℕ → ℕ → ℕ → ℕ
vc4_byte port b3 v i = vc4_byte_at port b3 v (i / 261) (i % 261)

-- the first n bytes of VC-4 number v
abbrev pub vc4_front : Customer → ℕ → ℕ → ℕ → List ℕ
vc4_front port b3 v n = cells (vc4_byte port b3 v) n

-- B3 of VC-4 number v: the parity of the VC-4 before it, and 0 in the first
unfoldable pub b3_of : Customer → ℕ → ℕ
b3_of port zero = 0
b3_of port (suc v) = bip8 (vc4_front port (b3_of port v) v 2349)

-- byte q of the VC-4s, one after the other
unfoldable pub container_byte : Customer → ℕ → ℕ
container_byte port q = let v = q / 2349 in vc4_byte port (b3_of port v) v (q % 2349)

-- the payload index at which a VC-4 begins: 783, the index of the byte after the last H3 byte, plus three for each step
-- of the offset, modulo 2349
abbrev pub phase_of : ℕ → ℕ
phase_of offset = (783 + 3 * offset) % 2349

-- the byte of VC-4 number 0 with which the stream begins
abbrev pub start_of : ℕ → ℕ
start_of offset = (2349 - phase_of offset) % 2349

-- byte p of the stream
unfoldable pub stream_byte : Customer → ℕ → ℕ
stream_byte port p = container_byte port (p + start_of port.offset)

-- n bytes of the stream from byte p on
unfoldable pub stream_from : Customer → ℕ → ℕ → List ℕ
stream_from port p n = cells (λ k. stream_byte port (p + k)) n

-- chunk j of the stream: what is sent in one frame where the clock never slipped
abbrev pub chunk_of : Customer → ℕ → List ℕ
chunk_of port j = stream_from port (2349 * j) 2349
