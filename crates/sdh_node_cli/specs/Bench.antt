-- A node that runs alone, on the bench: what records do with it, and what is written for a round.
use Rattle.std.specs.Prelude.{ℕ, ◌+◌, ◌-◌, ◌≤◌, nat_lt, if◌then◌else◌, List, [], ◌∷◌, ◌++◌, length, codes, decimal}
use Rattle.std.specs.Prelude.{Option, Some, None}
use Rattle.std.specs.Option.{option_map_or}
use Rattle.sdh_ringmap.specs.declared.Pos.{Pos}
use Rattle.sdh_ringmap.specs.declared.Side.{Side}
use Rattle.sdh_ringmap.specs.declared.Side.TheVariants.{West, East}
use Rattle.sdh_ringmap.specs.declared.terms.Rate.{Rate}
use Rattle.sdh_frame.specs.Sizes.{size_of}
use Rattle.sdh_circuits.specs.declared.PortId.{PortId}
use Rattle.sdh_circuits.specs.Provisioned.{Provisioned}
use Rattle.sdh_payload.specs.Outlet.{Outlet}
use Rattle.sdh_plan.specs.Planned.{Planned}
use Rattle.sdh_plan.specs.declared.reason.Reason.{Reason}
use Rattle.sdh_plan.specs.declared.reason.Reason.TheVariants as reason
use Rattle.sdh_report.specs.Lines.{port_line}
use Rattle.sdh_node.specs.Receiving.{commanded_by, arrived_on}
use Rattle.sdh_node.specs.Node.{Node, Frames, new_node, at_receiving, held_for, slips_at, node_round, moment_of}
use Rattle.sdh_terminal.specs.Tributaries.{HasPort, outlet_of, waiting_of}
use Rattle.sdh_aps.specs.Lines.{signal_line}
use Rattle.sdh_aps.specs.Showing.{shown_of}
use Rattle.sdh_node_cli.specs.declared.words.Mode.{Mode}
use Rattle.sdh_node_cli.specs.declared.words.Mode.TheVariants as mode
use Rattle.sdh_node_cli.specs.declared.record.Came.{Came}
use Rattle.sdh_node_cli.specs.declared.record.Came.TheVariants as came
use Rattle.sdh_node_cli.specs.declared.record.Told.{Told}
use Rattle.sdh_node_cli.specs.declared.record.Told.TheVariants as told
use Rattle.sdh_node_cli.specs.Records.{port_here, IsOwn}

-- ---- the node, and what the records so far have led to

pub record Bench : Type 0 where
  -- what is written for a round
  pub mode : Mode
  -- the identifier of the node, its position, and the circuits of its ring
  pub id : ℕ
  pub at : Pos
  pub circuits : List Provisioned
  -- the present moment
  pub moment : ℕ
  pub node : Node

-- the node at a position of a plan's ring, before any record
unfoldable pub new_bench : Mode → ℕ → Pos → Planned → Bench
new_bench m id at plan = record {
  mode = m;
  id = id;
  at = at;
  circuits = plan.circuits;
  moment = 0;
  node = new_node plan.settings plan.nodes plan.circuits at;
}

-- ---- what a record gives the node

-- why the node can't be given this, if it can't: the moment goes back, or more than 16 slips would wait at a port
unfoldable pub refusal_of : Bench → Told → Option Reason
refusal_of b (told.Command side c) = None
refusal_of b (told.Moment m) = if nat_lt m.0 b.moment then Some reason.MomentBack else None
refusal_of b (told.Hold turns) = None
refusal_of b (told.Slip port turn count) = if nat_lt 16 (waiting_of port b.node.ports + count) then Some reason.Slips else None

-- the bench after the node was given this
unfoldable pub after_told : Told → Bench → Bench
after_told (told.Command side c) b = record b { node = at_receiving side (commanded_by c) b.node }
after_told (told.Moment m) b = record b { moment = m.0 }
after_told (told.Hold turns) b = record b { node = held_for turns b.node }
after_told (told.Slip port turn count) b = record b { node = slips_at port turn count b.node }

-- ---- a round

-- the number of bytes that follow a record for what came on a side
abbrev pub size_after : Rate → Came → ℕ
size_after rate came.Nothing = 0
size_after rate came.Dark = 0
size_after rate came.Frame = size_of rate

-- the node after this came on a side; where it is a frame, `bytes` are its bytes
unfoldable pub after_coming : Side → Came → List ℕ → Node → Node
after_coming side came.Nothing bytes n = n
after_coming side came.Dark bytes n = at_receiving side (arrived_on None) n
after_coming side came.Frame bytes n = at_receiving side (arrived_on (Some bytes)) n

-- the bench after this came on both sides
abbrev pub with_arrivals : Came → List ℕ → Came → List ℕ → Bench → Bench
with_arrivals west from_west east from_east b =
    record b { node = after_coming East east from_east (after_coming West west from_west b.node) }

-- the bench after a round, and the frames of the round, by the bench before it
abbrev pub after_round : Bench → Bench
after_round b = record b { node = (node_round b.moment b.node).0 }

abbrev pub bench_frames : Bench → Frames
bench_frames b = (node_round b.moment b.node).1

-- ---- what is written for a round

-- what a port delivered in the last round
abbrev pub outlet_text : List ℕ → PortId → Outlet → List ℕ
outlet_text name port o = port_line name port.end o.delivered o.value

-- the line of a port of the node, of a circuit of this name, if there is such a port
abbrev pub text_of : Node → List ℕ → Option PortId → List ℕ
text_of n name port = option_map_or (λ id. outlet_text name id (outlet_of id n.ports)) port []

-- the line of the port of a circuit that is at the node, if one is
abbrev pub port_text : Node → Pos → ℕ → Provisioned → List ℕ
port_text n at number c = text_of n c.name (port_here at number c)

-- the lines of the ports of these circuits; the first circuit has this number
abbrev pub ports_from : Node → Pos → ℕ → List Provisioned → List ℕ
ports_from n at number [] = []
ports_from n at number (c ∷ cs) = port_text n at number c ++ ports_from n at (number + 1) cs

-- what the node shows after its last round, and what its ports deliver
unfoldable pub lines_of : Bench → List ℕ
lines_of b = signal_line (b.node.rounds - 1) b.id (shown_of b.node) ++ ports_from b.node b.at 0 b.circuits

-- the line that says that this number of bytes follows
abbrev pub bytes_line : ℕ → List ℕ
bytes_line count = codes "bytes " ++ decimal count ++ codes "\n"

-- the number of bytes of the frames that leave, and the frames, the one to the west first
unfoldable pub frames_text : Frames → List ℕ
frames_text f = bytes_line (length f.west.bytes + length f.east.bytes) ++ f.west.bytes ++ f.east.bytes

abbrev pub frames_if : Mode → Frames → List ℕ
frames_if mode.Lines f = []
frames_if mode.Frames f = frames_text f

-- the answer to a round, by the bench before it
unfoldable pub answer_to : Bench → List ℕ
answer_to b = lines_of (after_round b) ++ frames_if b.mode (bench_frames b)

-- ---- what is true of every bench

pub record IsBench (b : Bench) : Type 0 where
  pub forward : moment_of b.node ≤ b.moment
  pub within : b.moment ≤ 1000000000
  pub few : length b.circuits ≤ 128
  pub ports : (port : PortId) → IsOwn b.circuits b.at port → HasPort b.node.ports port
