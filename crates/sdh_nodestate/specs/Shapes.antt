-- The shape of a state, which can be copied and compared, and when two states are the same.
use Rattle.std.specs.Prelude.{Bool, true, false, ◌==◌, Option, Some, None}
use Rattle.sdh_ringmap.specs.declared.Pos.{Pos}
use Rattle.sdh_nodestate.specs.declared.NodeState.{NodeState}
use Rattle.sdh_nodestate.specs.declared.NodeState.TheVariants as state
use Rattle.sdh_nodestate.specs.declared.shape.Shape.{Shape}
use Rattle.sdh_nodestate.specs.declared.shape.Shape.TheVariants as shape

-- the state of a shape
abbrev pub state_of : Shape → NodeState
state_of shape.Idle = state.Idle tt
state_of shape.PassThrough = state.PassThrough tt
state_of (shape.SwitchWest far) = state.SwitchWest far
state_of (shape.SwitchEast far) = state.SwitchEast far
state_of shape.Isolated = state.Isolated tt

-- both far ends are at the same position, or neither exists
abbrev pub same_far : Option Pos → Option Pos → Bool
same_far None None = true
same_far (Some a) (Some b) = a.0 == b.0
same_far None (Some b) = false
same_far (Some a) None = false

-- two states are of one kind, with the same far end
unfoldable pub same_state : NodeState → NodeState → Bool
same_state (state.Idle x) (state.Idle y) = true
same_state (state.PassThrough x) (state.PassThrough y) = true
same_state (state.SwitchWest f) (state.SwitchWest g) = same_far f g
same_state (state.SwitchEast f) (state.SwitchEast g) = same_far f g
same_state (state.Isolated x) (state.Isolated y) = true
same_state _ _ = false
