-- A round of a ring of add-drop multiplexers over its fibres.
use Rattle.std.specs.Prelude.{ℕ, List}
use Rattle.sdh_ringmap.specs.declared.Side.{Side}
use Rattle.sdh_ringmap.specs.declared.Side.TheVariants.{West, East}
use Rattle.sdh_plant.specs.Fibres.{Arrival, Fibres}
use Rattle.sdh_node.specs.Node.{Node, node_round}
use Rattle.sdh_node.specs.Stations.{adm}
use Rattle.sdh_rounds.specs.Held as held
use Rattle.sdh_rounds.specs.Rounds as rounds
use Rattle.sdh_node.specs.Rings.Held.{HeldRing}

-- a ring and its fibres
abbrev pub World : Type 0
World = held.World Node

abbrev pub world : HeldRing → Fibres → World
world = held.world

-- ---- what arrives

-- what arrives in the next round, where that is known
abbrev pub arrivals_of : World → List Arrival
arrivals_of = rounds.arrivals_of

-- ---- the nodes receive

-- a node with what arrived on a side
abbrev pub with_arrival : Side → Arrival → Node → Node
with_arrival d a n = adm.told d a n

-- a node with both its arrivals
abbrev pub with_arrivals : Arrival → Arrival → Node → Node
with_arrivals = rounds.with_arrivals adm

-- the nodes that have received
abbrev pub all_with_arrivals : List Arrival → List Node → List Node
all_with_arrivals = rounds.all_with_arrivals adm

-- ---- the nodes send

-- a node after its round at a moment
abbrev pub node_after : ℕ → Node → Node
node_after now n = (node_round now n).0

-- the frames that a node sends in its round at a moment, to the west and to the east
abbrev pub west_frame : ℕ → Node → List ℕ
west_frame now n = adm.sends now West n

abbrev pub east_frame : ℕ → Node → List ℕ
east_frame now n = adm.sends now East n

-- the frames of all nodes by position, west before east
abbrev pub frames_of : ℕ → List Node → List (List ℕ)
frames_of = rounds.frames_of adm

-- ---- the round

-- the nodes of a world after these arrivals
abbrev pub nodes_with : List Arrival → World → List Node
nodes_with = rounds.nodes_with adm

-- all nodes receive these arrivals, and then all send at the present moment
abbrev pub round_with : List Arrival → World → World
round_with = rounds.round_with adm

-- the round where arrivals are known
abbrev pub round : World → World
round = rounds.round adm
