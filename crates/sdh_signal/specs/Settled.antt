-- The settled states: in which state each node of a ring is under the requests of its spans, with its far end. They
-- follow from all spans at once, and no K word occurs here. After ITU-T G.841, MS shared protection rings; the states
-- of nodes beside no applied span under lower requests are this project's own.
use Rattle.std.specs.Prelude.{ℕ, ◌-◌, Bool, true, false, ◌&&◌, ◌||◌, nat_lt, Option, option_map, List, map, length, slice_index, find}
use Rattle.std.specs.List.{range_with_len}
use Rattle.sdh_basics.specs.Cells.{cells}
use Rattle.sdh_ringmap.specs.Places.{opposite, span_at}
use Rattle.sdh_ringmap.specs.Steps.{going}
use Rattle.sdh_ringmap.specs.declared.Side.{Side}
use Rattle.sdh_ringmap.specs.declared.Side.TheVariants.{West, East}
use Rattle.sdh_ringmap.specs.declared.Pos.{Pos}
use Rattle.sdh_nodestate.specs.declared.NodeState.{NodeState}
use Rattle.sdh_nodestate.specs.declared.NodeState.TheVariants as state
use Rattle.sdh_restoration.specs.Applied.{highest, is_applied, is_any_applied}

-- the next k positions on side d of position p, in their order, in a ring of n
abbrev pub next_positions : ℕ → Side → ℕ → ℕ → List ℕ
next_positions n d p k = map (going n d p) (range_with_len 1 k)

-- The far end of position p, where only its span on side d is applied. It is the first position, going from p away from
-- that span, whose next span on the way is applied.
unfoldable pub far_end : List ℕ → ℕ → Side → Option Pos
far_end rs p d =
    option_map (λ q. record { 0 = q })
    (find (λ q. is_applied rs (span_at (length rs) q (opposite d))) (next_positions (length rs) (opposite d) p (length rs - 1)))

-- some request is above 0, and no span at position p has the highest one
abbrev pub is_outranked : List ℕ → ℕ → Bool
is_outranked rs p =
    nat_lt 0 (highest rs)
    && (nat_lt (slice_index rs (span_at (length rs) p West)) (highest rs)
    && nat_lt (slice_index rs (span_at (length rs) p East)) (highest rs))

-- the state by whether the spans on the west and on the east are applied, whether a node beside no applied span passes
-- through, and the far ends of a switch to the west and to the east
abbrev pub settled_by : Bool → Bool → Bool → Option Pos → Option Pos → NodeState
settled_by true true serves west east = state.Isolated tt
settled_by true false serves west east = state.SwitchWest west
settled_by false true serves west east = state.SwitchEast east
settled_by false false true west east = state.PassThrough tt
settled_by false false false west east = state.Idle tt

-- the settled state of position p: isolated between two applied spans; switched beside one, with its far end;
-- otherwise it passes through where any span is applied, or where it is outranked, and else it is idle
unfoldable pub settled : List ℕ → ℕ → NodeState
settled rs p =
    settled_by (is_applied rs (span_at (length rs) p West)) (is_applied rs (span_at (length rs) p East))
    (is_any_applied rs || is_outranked rs p) (far_end rs p West) (far_end rs p East)

-- the settled states of all positions
abbrev pub settled_states : List ℕ → List NodeState
settled_states rs = cells (settled rs) (length rs)
