-- The fields of an STM-N frame by row and column, both counted from 1 (ITU-T G.707 clauses 8.1 and 9.2).
use Rattle.std.specs.Prelude.{ℕ, ◌+◌, ◌*◌, ◌-◌, ◌/◌, ◌%◌, ◌==◌, ◌&&◌, nat_le, nat_lt, if◌then◌else◌}
use Rattle.sdh_frame.specs.declared.Field as field
use Rattle.sdh_frame.specs.declared.Field.TheVariants.{A1, A2, J0, Fixed, B1, B2, K1, K2, Unused, Pointer, Payload}
use Rattle.sdh_frame.specs.declared.Place.{Place}

-- the index of a place among the bytes of the frame
abbrev pub index_of : ℕ → Place → ℕ
index_of n place = (place.row - 1) * (270 * n) + (place.column - 1)

-- The field at a row and column. Columns after the first 9 N are payload, byte-interleaved over the AU-4s. Of the first
-- 9 N columns, row 4 holds the AU pointers, rows 1 to 3 the regenerator and rows 5 to 9 the multiplex section overhead.
unfoldable pub field_at : ℕ → ℕ → ℕ → field.Field
field_at n row column =
    if nat_lt (9 * n) column then Payload ((column - 9 * n - 1) % n + 1) else
    if row == 4 then Pointer ((column - 1) % n + 1) ((column - 1) / n) else
    if (row == 1) && nat_le column (3 * n) then A1 else
    if (row == 1) && nat_le column (6 * n) then A2 else
    if (row == 1) && (column == (6 * n + 1)) then J0 else
    if row == 1 then Fixed else
    if (row == 2) && (column == 1) then B1 else
    if (row == 5) && nat_le column (3 * n) then B2 (column - 1) else
    if (row == 5) && (column == (3 * n + 1)) then K1 else
    if (row == 5) && (column == (6 * n + 1)) then K2 else Unused

-- the place of byte j of the payload of an AU-4: its columns are 9 N + au, 10 N + au and so on, 261 in each row
abbrev pub payload_place : ℕ → ℕ → ℕ → Place
payload_place n au j = record { row = j / 261 + 1; column = 9 * n + (j % 261 * n + au) }

-- the place of byte p of the pointer of an AU-4: H1, Y, Y, H2, two bytes of ones, H3, H3, H3
abbrev pub place_of_pointer : ℕ → ℕ → ℕ → Place
place_of_pointer n au p = record { row = 4; column = p * n + au }
