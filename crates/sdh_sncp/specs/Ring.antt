-- A path ring over its fibres: what it holds, and its rounds, runs and windows, which are those of any ring.
use Rattle.std.specs.Prelude.{ℕ, Bool, List, length, map, slice_index_or}
use Rattle.sdh_ringmap.specs.declared.Side.{Side}
use Rattle.sdh_circuits.specs.declared.PortId.{PortId}
use Rattle.sdh_circuits.specs.Provisioned.{Provisioned}
use Rattle.sdh_circuits.specs.Provisioning.{Provisioning}
use Rattle.sdh_payload.specs.Outlet.{Outlet}
use Rattle.sdh_plant.specs.Fibres.{Arrival, Fibres}
use Rattle.sdh_request.specs.declared.settings.Settings.{Settings}
use Rattle.sdh_rounds.specs.Held as held
use Rattle.sdh_rounds.specs.Rounds as rounds
use Rattle.sdh_rounds.specs.Runs as runs
use Rattle.sdh_rounds.specs.Quiet as quiet
use Rattle.sdh_terminal.specs.Tributaries.{outlets_of}
use Rattle.sdh_sncp.specs.Node.{PathNode, path_node_round}
use Rattle.sdh_sncp.specs.Stations.{path_node}

abbrev pub HeldPath : Type 0
HeldPath = held.HeldRing PathNode

-- the nodes of a ring in which no round has run: each is new
unfoldable pub new_nodes : Settings → List ℕ → List Provisioned → ℕ → List PathNode
new_nodes = held.new_nodes path_node

abbrev pub new_ring : Settings → List ℕ → Provisioning → HeldPath
new_ring settings ids circuits = held.ring_of settings ids circuits (new_nodes settings ids circuits.circuits (length ids))

-- what a port of a circuit delivered in the last round, at the node where it is
unfoldable pub outlet_at : HeldPath → PortId → Outlet
outlet_at = held.outlet_at path_node

-- what the ports of a ring delivered in the last round, node by node
abbrev pub delivered_in : HeldPath → List (List Outlet)
delivered_in r = map (λ (n : PathNode). outlets_of n.ports) r.nodes

-- a node of no ring, which `path_node_at` gives at a position that the ring doesn't have
unfoldable pub nowhere : PathNode
nowhere = held.nowhere path_node

-- the node at a position
abbrev pub path_node_at : List PathNode → ℕ → PathNode
path_node_at ns p = slice_index_or ns p nowhere

-- what holds of the node at position p of a ring, at each position
abbrev pub AtEach : (ℕ → PathNode → Type 0) → List PathNode → Type 0
AtEach = held.AtEach nowhere

-- ---- a ring and its fibres

abbrev pub World : Type 0
World = held.World PathNode

abbrev pub world : HeldPath → Fibres → World
world = held.world

-- ---- a round

-- what arrives in the next round, where that is known
abbrev pub arrivals_of : World → List Arrival
arrivals_of = rounds.arrivals_of

-- a node with both its arrivals
abbrev pub with_arrivals : Arrival → Arrival → PathNode → PathNode
with_arrivals = rounds.with_arrivals path_node

-- the nodes that have received
abbrev pub all_with_arrivals : List Arrival → List PathNode → List PathNode
all_with_arrivals = rounds.all_with_arrivals path_node

-- the nodes of a world after these arrivals
abbrev pub nodes_with : List Arrival → World → List PathNode
nodes_with = rounds.nodes_with path_node

-- a node after its round
abbrev pub path_node_after : PathNode → PathNode
path_node_after n = (path_node_round n).0

-- the frame that a node sends on a side in its round
abbrev pub path_sent_on : Side → PathNode → List ℕ
path_sent_on d n = path_node.sends 0 d n

-- the frames of all nodes by position, west before east
abbrev pub frames_of : ℕ → List PathNode → List (List ℕ)
frames_of = rounds.frames_of path_node

-- all nodes receive these arrivals, and then all send
abbrev pub round_with : List Arrival → World → World
round_with = rounds.round_with path_node

-- the round where arrivals are known
abbrev pub round : World → World
round = rounds.round path_node

-- a round, whatever arrives in it
abbrev pub IsRound : World → World → Type 0
IsRound = runs.IsRound path_node

-- the fibres after a round that a fault broke off
abbrev pub IsBrokenOff : World → Fibres → Type 0
IsBrokenOff = runs.IsBrokenOff path_node

-- ---- runs and windows

-- the world after k more rounds, where arrivals are known
abbrev pub run : ℕ → World → World
run = runs.run path_node

-- the world after each number of rounds
abbrev pub course : World → ℕ → World
course = runs.course path_node

-- the last round was calm at each node
abbrev pub is_calm : List PathNode → Bool
is_calm = quiet.is_calm path_node

-- a quiet window ends with the k-th round of a course
abbrev pub EndsWindow : (ℕ → World) → ℕ → Type 0
EndsWindow = quiet.EndsWindow path_node

-- a settle step ended with a window
abbrev pub Settles : World → ℕ → World → Type 0
Settles = quiet.Settles path_node

-- a settle step ran all the rounds of its limit, and none ended a window
abbrev pub Unsettles : World → ℕ → World → Type 0
Unsettles = quiet.Unsettles path_node
