-- What a round asks of a node, whatever kind of node it is.
use Rattle.std.specs.Prelude.{ℕ, List, Bool}
use Rattle.sdh_ringmap.specs.declared.Pos.{Pos}
use Rattle.sdh_ringmap.specs.declared.Side.{Side}
use Rattle.sdh_circuits.specs.declared.PortId.{PortId}
use Rattle.sdh_circuits.specs.Provisioned.{Provisioned}
use Rattle.sdh_payload.specs.Outlet.{Outlet}
use Rattle.sdh_plant.specs.Fibres.{Arrival}
use Rattle.sdh_request.specs.declared.settings.Settings.{Settings}

pub record Station (N : Type 0) : Type 0 where
  -- a new node at a position of a ring with these identifiers and circuits
  pub new : Settings → List ℕ → List Provisioned → Pos → N
  -- the node with what arrived on a side, in place of what arrived there before
  pub told : Side → Arrival → N → N
  -- the node after its round at a moment
  pub after : ℕ → N → N
  -- the bytes of the frame that the node sends on a side in its round at a moment
  pub sends : ℕ → Side → N → List ℕ
  -- the node's last round was calm; each kind of node says when, as an add-drop multiplexer does by `with_calm` in
  -- `sdh_node/specs/Node.antt`
  pub calm : N → Bool
  -- what a port at the node delivered in the node's last round
  pub outlet : PortId → N → Outlet
