use Rattle.std.proofs.Common.{◌≡◌, ℕ, ◌+◌, List, ◌++◌, length}
use Rattle.std.specs.List.{All}
use Rattle.sdh_basics.specs.Cells.{cells}
use Rattle.sdh_circuits.specs.Kept.{KeepsRing}
use Rattle.sdh_squelch.specs.Table.{circuit_on, HasEnds}
use Rattle.sdh_squelch.proofs.add_rows.Given as goal

abbrev pub invariant-loop-i : goal.invariant-loop-i
invariant-loop-i l =
    (ids : List ℕ) → KeepsRing l.circuits ids
    → (l.rows.items ≡ l.initial.rows.items ++ cells (λ i. circuit_on (length ids) l.circuits.circuits l.span.0 (i + 1)) l.i)
    × (All (HasEnds (length ids)) l.initial.rows.items → All (HasEnds (length ids)) l.rows.items)
