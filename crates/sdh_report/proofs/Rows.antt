-- Rows of a chunk, and their lines.
use Rattle.std.proofs.Common.{◌≡◌, ℕ, zero, suc, ◌+◌, ◌-◌, ◌*◌, ◌<◌, ◌≤◌, ◌==◌, false, min, List, [], ◌∷◌, ◌++◌, length, take, codes, ap}
use Rattle.std.proofs.Common.{sym, ◌∙◌, arith, append-nil, inl, inr}
use Rattle.std.specs.List.{flat_map}
use Rattle.std.proofs.lemmas.Bool.{cases_lt}
use Rattle.std.proofs.lemmas.List.{take_all, length-append}
use Rattle.std.proofs.lemmas.Grind.{flat_map-append}
use Rattle.sdh_basics.specs.Cells.{cells}
use Rattle.sdh_basics.specs.Hexadecimal.{hex_of}
use Rattle.sdh_basics.proofs.CellsLaws.{cells-zero, cells-more}
use Rattle.sdh_basics.proofs.HexadecimalLaws.{length-hex_of}
use Rattle.sdh_report.specs.Lines.{row, row_line, chunk_rows}

-- the first n, or all where there are fewer
pub take_short : (k n : ℕ) (xs : List ℕ) → k ≡ min (length xs) n → take k xs ≡ take n xs
take_short k n xs e = elim (cases_lt n (length xs)) [
  | inl less ↦ ap (λ j. take j xs) (omega arith)
  | inr all ↦ take_all k xs (omega arith) ∙ sym (take_all n xs (omega arith))
]

-- a row with bytes in it has a line
pub length-row_line : (bytes : List ℕ) → false ≡ (length bytes == 0) → length (row_line bytes) ≡ 2 * length bytes + 1
length-row_line [] h = absurd cc
length-row_line (b ∷ bytes) h = omega (arith, length-append (hex_of (b ∷ bytes)) (codes "\n"), length-hex_of (b ∷ bytes))

-- the rows before one, and its own line
pub rows_more : (chunk : List ℕ) (i : ℕ) → chunk_rows chunk (i + 1) ≡ chunk_rows chunk i ++ row_line (row chunk i)
rows_more chunk i =
    ap (flat_map row_line) (cells-more (row chunk) i) ∙ flat_map-append row_line (cells (row chunk) i) (row chunk i ∷ [])
    ∙ ap (λ l. chunk_rows chunk i ++ l) (append-nil (row_line (row chunk i)))

pub rows_none : (chunk : List ℕ) → chunk_rows chunk 0 ≡ []
rows_none chunk = ap (flat_map row_line) (cells-zero (row chunk))

-- the lines of fewer rows have at most as many bytes
pub rows_below : (chunk : List ℕ) (i k : ℕ) → length (chunk_rows chunk i) ≤ length (chunk_rows chunk (i + k))
rows_below chunk i zero = omega (arith, ap (λ j. length (chunk_rows chunk j)) (let e : i + 0 ≡ i = omega arith in e))
rows_below chunk i (suc k) =
    let more : length (chunk_rows chunk (i + k + 1)) ≡ length (chunk_rows chunk (i + k)) + length (row_line (row chunk (i + k))) =
    ap (λ (l : List ℕ). length l) (rows_more chunk (i + k)) ∙ length-append (chunk_rows chunk (i + k)) (row_line (row chunk (i + k))) in
    let e : i + suc k ≡ i + k + 1 = omega arith in
    omega (arith, rows_below chunk i k, more, ap (λ j. length (chunk_rows chunk j)) e)

-- the line of one of the nine rows and the lines before it have at most as many bytes as all nine lines
pub rows_room : (chunk : List ℕ) (i : ℕ) → i < 9 → length (chunk_rows chunk i) + length (row_line (row chunk i))
    ≤ length (chunk_rows chunk 9)
rows_room chunk i h =
    let more : length (chunk_rows chunk (i + 1)) ≡ length (chunk_rows chunk i) + length (row_line (row chunk i)) =
    ap (λ (l : List ℕ). length l) (rows_more chunk i) ∙ length-append (chunk_rows chunk i) (row_line (row chunk i)) in
    let e : i + 1 + (8 - i) ≡ 9 = omega arith in
    omega (arith, more, rows_below chunk (i + 1) (8 - i), ap (λ j. length (chunk_rows chunk j)) e)
