-- The far end of a node that switches one side, and the chain between the two.
use Rattle.std.specs.Prelude.{ℕ, ◌+◌, ◌<◌, ◌≢◌, Option, None, option_map, IfSome}
use Rattle.sdh_ringmap.specs.Places.{eastwards}
use Rattle.sdh_ringmap.specs.declared.Pos.{Pos}
use Rattle.sdh_ringmap.specs.declared.Chain.{Chain}
use Rattle.sdh_nodestate.specs.declared.NodeState.{NodeState}
use Rattle.sdh_nodestate.specs.declared.NodeState.TheVariants as state

-- the far end of a state: only a node that switches one side may have one
abbrev pub far_of : NodeState → Option Pos
far_of (state.SwitchWest far) = far
far_of (state.SwitchEast far) = far
far_of (state.Idle x) = None
far_of (state.PassThrough x) = None
far_of (state.Isolated x) = None

-- the far end, where there is one, is another position of the ring than the node's
abbrev pub IsElsewhere : ℕ → ℕ → Option Pos → Type 0
IsElsewhere n at far = IfSome far (λ f. (f.0 < n) × (f.0 ≢ at))

-- the positions from one eastwards up to another, in a ring of n
abbrev pub chain_between : ℕ → Pos → Pos → Chain
chain_between n from to = record { first = from; count = eastwards n from.0 to.0 + 1 }

-- the chain of a node that switches west: the node, then eastwards up to the far end
abbrev pub west_chain : ℕ → Pos → Option Pos → Option Chain
west_chain n at far = option_map (λ f. chain_between n at f) far

-- the chain of a node that switches east: the far end, then eastwards up to the node
abbrev pub east_chain : ℕ → Pos → Option Pos → Option Chain
east_chain n at far = option_map (λ f. chain_between n f at) far
