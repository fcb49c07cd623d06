-- A ring seen from one position in one direction, and states of nodes seen from either side.
use Rattle.std.proofs.Common.{subst}
use Rattle.std.proofs.lemmas.Option.{get_or_from_slice_get, slice_get_within}
use Rattle.std.specs.Prelude.{ℕ, ◌≡◌, ◌≢◌, ◌<◌, List, slice_get, Bool, true, false, Option, Some, None, ◌==◌, if◌then◌else◌, nat_le}
use Rattle.sdh_circuits.specs.Provisioned.{AreApart, Provisioned, arc_of}
use Rattle.sdh_circuits.specs.Provisioning.{AreCircuits, IsInRing}
use Rattle.sdh_circuits.specs.declared.End.{End}
use Rattle.sdh_circuits.specs.declared.End.TheVariants.{A, B}
use Rattle.sdh_nodestate.specs.FarEnds.{chain_between}
use Rattle.sdh_nodestate.specs.declared.NodeState.{NodeState}
use Rattle.sdh_nodestate.specs.declared.NodeState.TheVariants as state
use Rattle.sdh_ringmap.specs.Arcs.{holds_span}
use Rattle.sdh_ringmap.specs.Places.{eastwards, in_chain, opposite, position_of}
use Rattle.sdh_ringmap.specs.declared.Chain.{Chain}
use Rattle.sdh_ringmap.specs.declared.Pos.{Pos}
use Rattle.sdh_ringmap.specs.declared.Side.{Side}
use Rattle.sdh_ringmap.specs.declared.Side.TheVariants.{East, West}
use Rattle.sdh_squelch.specs.Table.{is_carried}
use Rattle.sdh_squelch.specs.declared.Row.{Row}

-- position q is among the positions eastwards from `first` up to `last`
abbrev pub is_between : ℕ → ℕ → ℕ → ℕ → Bool
is_between n first last q = nat_le (eastwards n first q) (eastwards n first last)

-- q is passed on the way from x, on side d, up to y
abbrev pub passes : ℕ → Side → ℕ → ℕ → ℕ → Bool
passes n East x y q = is_between n x y q
passes n West x y q = is_between n y x q

-- the chain of a node at p that switches side d and has the far end f
abbrev pub chain_to : ℕ → ℕ → Side → ℕ → Chain
chain_to n p West f = chain_between n (position_of p) (position_of f)
chain_to n p East f = chain_between n (position_of f) (position_of p)

-- position q is in that chain
abbrev pub is_in_chain : ℕ → Side → ℕ → ℕ → ℕ → Bool
is_in_chain n d p f q = in_chain n (chain_to n p d f) q

-- the circuit o may be carried over it
abbrev pub carried : ℕ → ℕ → Option Row → Side → ℕ → Bool
carried n p o d f = is_carried n o (chain_to n p d f)

-- the circuit's arc holds the span s
abbrev pub holds : ℕ → Provisioned → ℕ → Bool
holds n c s = holds_span n (arc_of n c) s

-- the number of spans of a circuit's arc
unfoldable pub arc_length : ℕ → Provisioned → ℕ
arc_length n c = (arc_of n c).spans

-- the end of a circuit at position p
abbrev pub end_at : Provisioned → ℕ → Option End
end_at c p = if c.from.0 == p then Some A else (if c.to.0 == p then Some B else None)

abbrev pub Isolated : NodeState
Isolated = state.Isolated tt

abbrev pub PassThrough : NodeState
PassThrough = state.PassThrough tt

abbrev pub Idle : NodeState
Idle = state.Idle tt

-- one side is switched, with its far end
abbrev pub Switch : Side → Option Pos → NodeState
Switch West f = state.SwitchWest f
Switch East f = state.SwitchEast f

abbrev pub far_at : ℕ → Option Pos
far_at p = Some (position_of p)

-- the state by whether the spans on a side and on the other are applied, with the first positions on that side and on
-- the other whose next span is applied
abbrev pub side_state : Side → Bool → Bool → Option Pos → Option Pos → NodeState → NodeState
side_state d true true f g rest = Isolated
side_state d true false f g rest = Switch d g
side_state d false true f g rest = Switch (opposite d) f
side_state d false false f g rest = rest

-- the circuits of a ring of n: each leads from one position to another, and no two share a span and a slot
pub record AreOnRing (n : ℕ) (cs : List Provisioned) : Type 0 where
  pub inside : (i : ℕ) (c : Provisioned) → slice_get cs i ≡ Some c → (c.from.0 < n) × (c.to.0 < n)
  pub two : (i : ℕ) (c : Provisioned) → slice_get cs i ≡ Some c → c.from.0 ≢ c.to.0
  pub apart : AreApart n cs

pub on-ring : (n slots : ℕ) (cs : List Provisioned) → AreCircuits n slots cs → AreOnRing n cs
on-ring n slots cs form = record {
  inside = λ i c e. let r = at_ring i c e in (r.from_inside, r.to_inside);
  two = λ i c e. (at_ring i c e).two_ends;
  apart = form.apart;
} where
  at_ring : (i : ℕ) (c : Provisioned) → slice_get cs i ≡ Some c → IsInRing n c
  at_ring i c e = subst (IsInRing n) (get_or_from_slice_get cs i c c e) (form.in_ring i c (slice_get_within cs i c e))
