-- Which circuit a node meets on each side in each slot, and which circuits may be carried round the ring. Squelching is
-- that of ITU-T G.841, MS shared protection rings; the table's form is this project's own.
use Rattle.std.specs.Prelude.{ℕ, ◌≡◌, ◌+◌, ◌-◌, ◌<◌, Bool, false, ◌&&◌, if◌then◌else◌, Option, Some, None, IfSome, List, [], ◌∷◌, ◌++◌}
use Rattle.std.specs.Prelude.{length, slice_index_or}
use Rattle.std.specs.List.{All}
use Rattle.sdh_basics.specs.Cells.{cells}
use Rattle.sdh_ringmap.specs.Places.{span_at, in_chain}
use Rattle.sdh_ringmap.specs.declared.Chain.{Chain}
use Rattle.sdh_ringmap.specs.declared.Pos.{Pos}
use Rattle.sdh_ringmap.specs.declared.Side.{Side}
use Rattle.sdh_ringmap.specs.declared.Side.TheVariants.{West, East}
use Rattle.sdh_circuits.specs.Provisioned.{Provisioned, is_on}
use Rattle.sdh_squelch.specs.declared.Row.{Row}

-- a circuit on a span, by its number, with the positions of its ends
abbrev pub OnSpan : Type 0
OnSpan = Row

-- the circuit on span s in slot m, with its end positions, in a ring of n, where the circuits are numbered from i on
abbrev pub circuit_from : ℕ → ℕ → ℕ → ℕ → List Provisioned → Option OnSpan
circuit_from n s m i [] = None
circuit_from n s m i (c ∷ cs) =
    if is_on n s m c then Some (record { circuit = i; from = c.from; to = c.to }) else circuit_from n s m (i + 1) cs

-- in a ring of n, the one of these circuits whose arc holds span s in slot m; there is at most one
abbrev pub circuit_on : ℕ → List Provisioned → ℕ → ℕ → Option OnSpan
circuit_on n circuits s m = circuit_from n s m 0 circuits

-- the circuit in slot m on each side of the node at p
abbrev pub circuits_at : ℕ → List Provisioned → ℕ → ℕ → Side → Option OnSpan
circuits_at n circuits p m d = circuit_on n circuits (span_at n p d) m

-- the circuits in slots 1 to 8 on a side of the node at p
abbrev pub slots_on : ℕ → List Provisioned → ℕ → Side → List (Option OnSpan)
slots_on n circuits p d = cells (λ i. circuits_at n circuits p (i + 1) d) 8

-- A table as contracts see it: the identifiers of the ring, the position of the node, and the ring's circuits.
pub record SquelchTable : Type 0 where
  pub ring : List ℕ
  pub at : Pos
  pub circuits : List Provisioned

-- the table of the node at a position of a ring with these circuits
abbrev pub table_of : List ℕ → List Provisioned → Pos → SquelchTable
table_of ring circuits at = record { ring = ring; at = at; circuits = circuits }

-- the sixteen rows of a table: those of the west side before those of the east side
unfoldable pub rows_of : SquelchTable → List (Option Row)
rows_of t = let n = length t.ring in slots_on n t.circuits t.at.0 West ++ slots_on n t.circuits t.at.0 East

-- the row of a slot, by side
abbrev pub row_at : List (Option Row) → ℕ → Side → Option Row
row_at rows m West = slice_index_or rows (m - 1) None
row_at rows m East = slice_index_or rows (m + 7) None

-- both ends of a row's circuit are positions of a ring of n
abbrev pub HasEnds : ℕ → Option Row → Type 0
HasEnds n row = IfSome row (λ r. (r.from.0 < n) × (r.to.0 < n))

-- what is true of every table, and of the rows that it keeps
pub record IsTable (t : SquelchTable) (rows : List (Option Row)) : Type 0 where
  pub rows_are : rows ≡ rows_of t
  pub sixteen : length rows ≡ 16
  pub inside : t.at.0 < length t.ring
  pub ends : All (HasEnds (length t.ring)) rows

-- a circuit is there, and both its ends are in the chain
abbrev pub is_carried : ℕ → Option OnSpan → Chain → Bool
is_carried n None chain = false
is_carried n (Some r) chain = in_chain n chain r.from.0 && in_chain n chain r.to.0
