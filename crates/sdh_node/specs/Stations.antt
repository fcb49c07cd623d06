-- An add-drop multiplexer as a node that runs in rounds.
use Rattle.std.specs.Prelude.{◌≡◌, ℕ, ◌≤◌, ◌<◌, ◌^◌, refl}
use Rattle.sdh_frame.specs.Sizes.{Frame}
use Rattle.sdh_ringmap.specs.declared.Side.{Side}
use Rattle.sdh_ringmap.specs.declared.Side.TheVariants.{West, East}
use Rattle.sdh_plant.specs.Fibres.{Arrival}
use Rattle.sdh_terminal.specs.Tributaries.{outlet_of}
use Rattle.sdh_rounds.specs.Stations.{Station}
use Rattle.sdh_node.specs.Receiving.{arrived_on}
use Rattle.sdh_node.specs.Node.{Node, Frames, new_node, at_receiving, node_round, moment_of}

abbrev pub frame_on : Side → Frames → Frame
frame_on West f = f.west
frame_on East f = f.east

abbrev pub adm : Station Node
adm = record {
  new = new_node;
  told = λ side a n. at_receiving side (arrived_on a) n;
  after = λ now n. (node_round now n).0;
  sends = λ now side n. (frame_on side (node_round now n).1).bytes;
  calm = λ n. n.calm;
  outlet = λ port n. outlet_of port n.ports;
}

-- a node may run a round at a moment that isn't before that of its last round, if moment and rounds are within bounds
pub record MayRun (now : ℕ) (n : Node) : Type 0 where
  pub early : moment_of n ≤ now
  pub within : now ≤ 1000000000
  pub few : n.rounds < 2 ^ 32

-- ---- what arrives at a node changes neither its rate nor whether it may run

pub told_rate : (side : Side) (a : Arrival) (n : Node) → (adm.told side a n).settings.rate ≡ n.settings.rate
told_rate West a n = refl
told_rate East a n = refl

pub told_may : (now : ℕ) (side : Side) (a : Arrival) (n : Node) → MayRun now n → MayRun now (adm.told side a n)
told_may now West a n may = record { early = may.early; within = may.within; few = may.few }
told_may now East a n may = record { early = may.early; within = may.within; few = may.few }
