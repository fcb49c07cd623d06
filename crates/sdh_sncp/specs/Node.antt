-- A node of a path ring, and its round. What a port sends goes both ways round, and each port takes the way on which
-- its circuit comes with a pointer.
use Rattle.std.specs.Prelude.{◌≡◌, ℕ, ◌+◌, ◌-◌, ◌/◌, Bool, false, not, ◌&&◌, nat_le, if◌then◌else◌, List, slice_index_or, All, length}
use Rattle.sdh_ringmap.specs.declared.terms.Rate.{Rate}
use Rattle.sdh_frame.specs.Sizes.{Frame}
use Rattle.sdh_ringmap.specs.Rates.{n_of}
use Rattle.sdh_ringmap.specs.declared.Pos.{Pos}
use Rattle.sdh_ringmap.specs.declared.Side.{Side}
use Rattle.sdh_ringmap.specs.declared.Side.TheVariants.{West, East}
use Rattle.sdh_ringmap.specs.Places.{opposite}
use Rattle.sdh_circuits.specs.Provisioned.{Provisioned}
use Rattle.sdh_nodestate.specs.Words.{first_word}
use Rattle.sdh_pointer.specs.Laws.{is_ais_action}
use Rattle.sdh_plant.specs.Fibres.{Arrival}
use Rattle.sdh_terminal.specs.declared.matrix.Feeder.{Feeder}
use Rattle.sdh_terminal.specs.declared.matrix.Feeder.TheVariants as feeder
use Rattle.sdh_terminal.specs.Same.{same_readings, same_generators}
use Rattle.sdh_terminal.specs.Passing.{Input}
use Rattle.sdh_terminal.specs.Receiving.{Inlet, Intake, new_inlet, new_intake, inlet_told, taken_in, after_taking}
use Rattle.sdh_terminal.specs.Lines.{Lines, received, all_fed_by, dropped_by}
use Rattle.sdh_terminal.specs.Tributaries.{Tributary, tributaries_at, all_delivered_with, all_fed, added_by, IsTributary}
use Rattle.sdh_terminal.specs.Sending.{Sending, new_sending, frame_from, after_sending}
use Rattle.sdh_request.specs.declared.settings.Settings.{Settings}
use Rattle.sdh_sncp.specs.declared.slots.Use.{Use}
use Rattle.sdh_sncp.specs.declared.slots.Use.TheVariants.{Unused, Passed, Ended}
use Rattle.sdh_sncp.specs.Slots.{uses_at}

-- the receiving half of each side, what they take in, and what is done with each slot
pub record PathCross : Type 0 where
  pub uses : List Use
  pub west : Inlet
  pub east : Inlet
  pub west_in : Intake
  pub east_in : Intake

pub record PathNode : Type 0 where
  pub threshold : ℕ
  -- what is done with AU-4s 1 to N
  pub uses : List Use
  -- the number of rounds that the node has run
  pub rounds : ℕ
  -- the receiving half of each side
  pub west : Inlet
  pub east : Inlet
  -- the ports of circuits that are at the node
  pub ports : List Tributary
  -- the sending half of each side
  pub west_out : Sending
  pub east_out : Sending
  -- the last round was calm
  pub calm : Bool

-- ---- a new node

abbrev pub new_path_cross : Rate → List Provisioned → Pos → PathCross
new_path_cross rate circuits at = record {
  uses = uses_at circuits at.0 (n_of rate);
  west = new_inlet rate;
  east = new_inlet rate;
  west_in = new_intake rate;
  east_in = new_intake rate;
}

-- a new node, which sends on both sides the word that asks its neighbour for nothing
unfoldable pub new_path_node : Settings → List ℕ → List Provisioned → Pos → PathNode
new_path_node s ids circuits at = record {
  threshold = s.threshold;
  uses = uses_at circuits at.0 (n_of s.rate);
  rounds = 0;
  west = new_inlet s.rate;
  east = new_inlet s.rate;
  ports = tributaries_at at circuits;
  west_out = new_sending s.rate (first_word ids at.0 West);
  east_out = new_sending s.rate (first_word ids at.0 East);
  calm = false;
}

-- ---- between rounds

abbrev pub cross_told : Side → Arrival → PathCross → PathCross
cross_told West a x = record x { west = inlet_told a x.west }
cross_told East a x = record x { east = inlet_told a x.east }

abbrev pub path_node_told : Side → Arrival → PathNode → PathNode
path_node_told West a n = record n { west = inlet_told a n.west }
path_node_told East a n = record n { east = inlet_told a n.east }

-- ---- a round

-- both sides take what arrived, and all interpreters read
unfoldable pub after_taken : ℕ → PathCross → PathCross
after_taken threshold x = record x {
  west = after_taking threshold x.west;
  east = after_taking threshold x.east;
  west_in = taken_in threshold x.west;
  east_in = taken_in threshold x.east;
}

abbrev pub lines_of : PathCross → Lines
lines_of x = record {
  rate = x.west.section.rate;
  west = record { readings = x.west.readings; intake = x.west_in };
  east = record { readings = x.east.readings; intake = x.east_in };
}

-- What feeds AU-4 number au that leaves on a side, by what is done with its slot. A port at the node sends on both
-- sides; a slot that is passed on comes from the opposite side.
abbrev pub fed_for : Use → Side → ℕ → Feeder
fed_for Unused side au = feeder.Ais
fed_for Passed side au = feeder.Received (opposite side) au
fed_for (Ended port) side au = feeder.Port port

unfoldable pub path_leads : PathCross → Side → ℕ → Feeder
path_leads x side au = fed_for (slice_index_or x.uses (au - 1) Unused) side au

-- an AU-4 comes with a pointer: its interpreter answered something else than AIS, so that its mode is Norm
abbrev pub comes : Input → Bool
comes i = not (is_ais_action i.action)

-- What is dropped to the port whose circuit leaves on a side in slot m. It is the AU-4 from that side, on which the
-- circuit's arc comes in, where it comes with a pointer; else the one from the other side, where that one does; else
-- AIS.
unfoldable pub path_drops : PathCross → Side → ℕ → Feeder
path_drops x side m =
    if comes (received (lines_of x) side m) then feeder.Received side m else
    if comes (received (lines_of x) (opposite side) m) then feeder.Received (opposite side) m else feeder.Ais

-- the cross-connect of the round
unfoldable pub path_crossing : PathNode → PathCross
path_crossing n = record {
  uses = n.uses;
  west = after_taking n.threshold n.west;
  east = after_taking n.threshold n.east;
  west_in = taken_in n.threshold n.west;
  east_in = taken_in n.threshold n.east;
}

-- what is dropped to a port
abbrev pub path_dropped_to : PathCross → Tributary → Input
path_dropped_to x t = dropped_by (lines_of x) (path_drops x t.side t.slot.0)

-- what goes into each AU-4 that leaves on a side
abbrev pub path_input_at : PathCross → List Tributary → Side → ℕ → Input
path_input_at x ports side = all_fed_by (lines_of x) (added_by ports) (path_leads x side)

unfoldable pub path_ports_after : PathCross → List Tributary → List Tributary
path_ports_after x ports = all_fed (all_delivered_with (path_dropped_to x) ports)

-- all interpreters and generators are as they were before the round; nothing else is compared
abbrev pub unchanged : PathNode → PathNode → Bool
unchanged new old =
    same_readings new.west.readings old.west.readings && same_readings new.east.readings old.east.readings
    && (same_generators new.west_out.generators old.west_out.generators && same_generators new.east_out.generators old.east_out.generators)

unfoldable pub after_path_crossing : PathCross → PathNode → PathNode
after_path_crossing x n = record n {
  rounds = n.rounds + 1;
  west = x.west;
  east = x.east;
  ports = path_ports_after x n.ports;
  west_out = after_sending (path_input_at x n.ports West) n.west_out;
  east_out = after_sending (path_input_at x n.ports East) n.east_out;
}

-- the frames that a node sends on both sides
pub record PathFrames : Type 0 where
  pub west : Frame
  pub east : Frame

unfoldable pub path_node_frames : PathCross → PathNode → PathFrames
path_node_frames x n = record { west = frame_from (path_input_at x n.ports West) n.west_out; east = frame_from (path_input_at x n.ports East) n.east_out }

-- the round was calm where one ran before it and nothing of what is compared changed
unfoldable pub path_with_calm : PathNode → PathNode → PathNode
path_with_calm old new = record new { calm = nat_le 1 old.rounds && unchanged new old }

-- the node after a round, and what it sends
unfoldable pub path_node_round : PathNode → PathNode × PathFrames
path_node_round n = (path_with_calm n (after_path_crossing (path_crossing n) n), path_node_frames (path_crossing n) n)

-- ---- what others read of a node

abbrev pub inlet_on : Side → PathNode → Inlet
inlet_on West n = n.west
inlet_on East n = n.east

abbrev pub path_sending_on : Side → PathNode → Sending
path_sending_on West n = n.west_out
path_sending_on East n = n.east_out

-- ---- what is true of every node

pub record IsPathCross (x : PathCross) : Type 0 where
  pub rates : x.east.section.rate ≡ x.west.section.rate
  pub west_rate : x.west_in.frame.rate ≡ x.west.section.rate
  pub east_rate : x.east_in.frame.rate ≡ x.west.section.rate
  pub uses : length x.uses ≡ n_of x.west.section.rate

pub record IsPathNode (n : PathNode) : Type 0 where
  pub west_out_rate : n.west_out.section.rate ≡ n.west.section.rate
  pub east_out_rate : n.east_out.section.rate ≡ n.west.section.rate
  pub ports : All (IsTributary (n_of n.west.section.rate / 2) n.rounds) n.ports

-- what a round leaves for the next one: the same rate, and one round more
pub record GoesOn (old new : PathNode) : Type 0 where
  pub rate : new.west.section.rate ≡ old.west.section.rate
  pub rounds : new.rounds ≡ old.rounds + 1
