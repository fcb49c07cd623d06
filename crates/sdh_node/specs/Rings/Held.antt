-- What a ring of add-drop multiplexers holds.
use Rattle.std.specs.Prelude.{ℕ, List, length, slice_index_or}
use Rattle.sdh_circuits.specs.declared.PortId.{PortId}
use Rattle.sdh_circuits.specs.Provisioned.{Provisioned}
use Rattle.sdh_circuits.specs.Provisioning.{Provisioning}
use Rattle.sdh_request.specs.declared.settings.Settings.{Settings}
use Rattle.sdh_payload.specs.Outlet.{Outlet}
use Rattle.sdh_node.specs.Node.{Node}
use Rattle.sdh_node.specs.Stations.{adm}
use Rattle.sdh_rounds.specs.Held as held

abbrev pub HeldRing : Type 0
HeldRing = held.HeldRing Node

-- the nodes of a ring in which no round has run: each is new
unfoldable pub new_nodes : Settings → List ℕ → List Provisioned → ℕ → List Node
new_nodes = held.new_nodes adm

-- a ring in which no round has run, at moment 0
abbrev pub new_ring : Settings → List ℕ → Provisioning → HeldRing
new_ring settings ids circuits = held.ring_of settings ids circuits (new_nodes settings ids circuits.circuits (length ids))

-- the nodes with a change at one position
abbrev pub at_place : ℕ → (Node → Node) → List Node → List Node
at_place = held.at_place

-- the position of the node where a port of a circuit is; where there is no such circuit, the number of nodes
unfoldable pub place_of_port : HeldRing → PortId → ℕ
place_of_port = held.place_of_port

-- what a port of a circuit delivered in the last round, at the node where it is
unfoldable pub outlet_at : HeldRing → PortId → Outlet
outlet_at = held.outlet_at adm

-- a node of no ring, which `node_at` gives at a position that the ring doesn't have
unfoldable pub nowhere : Node
nowhere = held.nowhere adm

-- the node at a position
abbrev pub node_at : List Node → ℕ → Node
node_at ns p = slice_index_or ns p nowhere

-- a property of a position and its node holds at each position of a ring
abbrev pub AtEach : (ℕ → Node → Type 0) → List Node → Type 0
AtEach = held.AtEach nowhere
