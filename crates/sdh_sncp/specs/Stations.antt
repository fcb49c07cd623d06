-- A node of a path ring as a node that runs in rounds. Its rounds don't depend on the moment.
use Rattle.std.specs.Prelude.{◌≡◌, ℕ, ◌<◌, ◌^◌, refl}
use Rattle.sdh_frame.specs.Sizes.{Frame}
use Rattle.sdh_ringmap.specs.declared.Side.{Side}
use Rattle.sdh_ringmap.specs.declared.Side.TheVariants.{West, East}
use Rattle.sdh_plant.specs.Fibres.{Arrival}
use Rattle.sdh_terminal.specs.Tributaries.{outlet_of}
use Rattle.sdh_rounds.specs.Stations.{Station}
use Rattle.sdh_sncp.specs.Node.{PathNode, PathFrames, new_path_node, path_node_told, path_node_round}

abbrev pub frame_on : Side → PathFrames → Frame
frame_on West f = f.west
frame_on East f = f.east

abbrev pub path_node : Station PathNode
path_node = record {
  new = new_path_node;
  told = λ side a n. path_node_told side a n;
  after = λ now n. (path_node_round n).0;
  sends = λ now side n. (frame_on side (path_node_round n).1).bytes;
  calm = λ n. n.calm;
  outlet = λ port n. outlet_of port n.ports;
}

-- a node may run a round
abbrev pub MayRun : ℕ → PathNode → Type 0
MayRun now n = n.rounds < 2 ^ 32

-- ---- what arrives at a node changes neither its rate nor whether it may run

pub path_told_rate : (side : Side) (a : Arrival) (n : PathNode) → (path_node.told side a n).west.section.rate ≡ n.west.section.rate
path_told_rate West a n = refl
path_told_rate East a n = refl

pub path_told_may : (now : ℕ) (side : Side) (a : Arrival) (n : PathNode) → MayRun now n → MayRun now (path_node.told side a n)
path_told_may now West a n may = may
path_told_may now East a n may = may
