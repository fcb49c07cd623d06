-- The rows of a table, by side and slot.
use Rattle.std.proofs.Common.{◌≡◌, ℕ, ◌+◌, ◌-◌, ◌≤◌, List, [], ◌++◌, length, Option, None, ap, ◌∙◌, arith, length-append}
use Rattle.std.proofs.lemmas.List.{get_or_append_left, get_or-append_right}
use Rattle.sdh_basics.specs.Cells.{cells}
use Rattle.sdh_basics.proofs.CellsLaws.{length-cells, get_or-cells}
use Rattle.sdh_ringmap.specs.Places.{span_at}
use Rattle.sdh_ringmap.specs.declared.Side.{Side}
use Rattle.sdh_ringmap.specs.declared.Side.TheVariants.{West, East}
use Rattle.sdh_circuits.specs.Provisioned.{Provisioned}
use Rattle.sdh_squelch.specs.declared.Row.{Row}
use Rattle.sdh_squelch.specs.Table.{SquelchTable, circuit_on, circuits_at, slots_on, rows_of, row_at}

-- two times eight rows
pub sixteen-rows : (f g : ℕ → Option Row) → length (cells f 8 ++ cells g 8) ≡ 16
sixteen-rows f g = length-append (cells f 8) (cells g 8) ∙ (let a = length-cells f 8 in let b = length-cells g 8 in omega arith)

module _ (n : ℕ) (circuits : List Provisioned) (p : ℕ) where
  abbrev on : Side → ℕ → Option Row
  on d i = circuits_at n circuits p (i + 1) d

  abbrev all : List (Option Row)
  all = slots_on n circuits p West ++ slots_on n circuits p East

  -- each row is the circuit on its side and slot
  row_is : (d : Side) (m : ℕ) → 1 ≤ m → m ≤ 8 → row_at all m d ≡ circuits_at n circuits p m d
  row_is West m low high =
      let west = length-cells (on West) 8 in
      get_or_append_left (cells (on West) 8) (cells (on East) 8) None (m - 1) (omega arith)
      ∙ get_or-cells (on West) 8 (m - 1) None (omega arith) ∙ ap (λ k. circuits_at n circuits p k West) (omega arith)
  row_is East m low high =
      get_or-append_right (cells (on West) 8) (cells (on East) 8) 8 (m + 7) None (length-cells (on West) 8) (omega arith)
      ∙ get_or-cells (on East) 8 (m + 7 - 8) None (omega arith) ∙ ap (λ k. circuits_at n circuits p k East) (omega arith)

  pub rows-are : (m : ℕ) → 1 ≤ m → m ≤ 8 → row_at all m ≡ circuits_at n circuits p m
  rows-are m low high = λ i d. row_is d m low high i

  -- the rows of the west side, then those of the east side
  pub all-rows : (west east : ℕ) (r0 r1 r2 : List (Option Row)) → r0 ≡ [] → west ≡ span_at n p West → east ≡ span_at n p East
      → r1 ≡ r0 ++ cells (λ i. circuit_on n circuits west (i + 1)) 8 → r2 ≡ r1 ++ cells (λ i. circuit_on n circuits east (i + 1)) 8
      → r2 ≡ all
  all-rows west east r0 r1 r2 none w e first second =
      let f : ℕ → ℕ → Option Row = λ s i. circuit_on n circuits s (i + 1) in
      second ∙ ap (λ l. l ++ cells (f east) 8) (first ∙ ap (λ l. l ++ cells (f west) 8) none)
      ∙ ap (λ s. cells (f s) 8 ++ cells (f east) 8) w ∙ ap (λ s. cells (on West) 8 ++ cells (f s) 8) e

-- the rows that a table keeps are the circuits at its position
pub kept-are : (t : SquelchTable) (rows : List (Option Row)) (m : ℕ) → rows ≡ rows_of t → 1 ≤ m → m ≤ 8
    → row_at rows m ≡ circuits_at (length t.ring) t.circuits t.at.0 m
unfolding rows_of
kept-are t rows m e low high = ap (λ r. row_at r m) e ∙ rows-are (length t.ring) t.circuits t.at.0 m low high
