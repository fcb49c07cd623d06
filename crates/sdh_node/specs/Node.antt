-- A node of the ring, and its round.
use Rattle.std.specs.Prelude.{◌≡◌, ℕ, ◌+◌, ◌-◌, ◌/◌, ◌≤◌, Bool, false, ◌&&◌, not, nat_le, None, List, [], replicate, All}
use Rattle.sdh_frame.specs.Sizes.{Frame}
use Rattle.sdh_ringmap.specs.Rates.{n_of}
use Rattle.sdh_overhead.specs.Sections.{holding}
use Rattle.sdh_ringmap.specs.declared.terms.Code.TheVariants.{Nr}
use Rattle.sdh_kbytes.specs.declared.K.{K}
use Rattle.sdh_ringmap.specs.declared.Pos.{Pos}
use Rattle.sdh_ringmap.specs.declared.Side.{Side}
use Rattle.sdh_ringmap.specs.declared.Side.TheVariants.{West, East}
use Rattle.sdh_request.specs.Kept.{kept_of}
use Rattle.sdh_circuits.specs.declared.PortId.{PortId}
use Rattle.sdh_circuits.specs.Provisioned.{Provisioned}
use Rattle.sdh_nodestate.specs.declared.NodeState.{NodeState}
use Rattle.sdh_nodestate.specs.declared.NodeState.TheVariants as state
use Rattle.sdh_nodestate.specs.Filtering.{nothing_brought, hears}
use Rattle.sdh_nodestate.specs.Words.{first_word}
use Rattle.sdh_pointer.specs.Reading.{start}
use Rattle.sdh_request.specs.declared.settings.Settings.{Settings}
use Rattle.sdh_node.specs.Same.{ComparedIn, ComparedOut, Compared, same_compared}
use Rattle.sdh_terminal.specs.Receiving.{new_intake}
use Rattle.sdh_node.specs.Receiving.{Receiving, after_intake, intake_of, if_west, if_east}
use Rattle.sdh_payload.specs.declared.clock.Turn.{Turn}
use Rattle.sdh_terminal.specs.Tributaries.{Tributary, HasPort, IsTributary, tributaries_at, with_slips, added_by, all_fed}
use Rattle.sdh_node.specs.Crossing.{Cross, after_decision, next_word, all_delivered, input_at, is_failed}
use Rattle.sdh_terminal.specs.Sending.{Sending, new_sending, with_word, frame_from, after_sending}
use Rattle.sdh_nodestate.specs.declared.Needs.{Needs}
use Rattle.sdh_nodestate.specs.declared.Heard.{Heard}
use Rattle.sdh_nodestate.specs.declared.Sent.{Sent}

pub record Node : Type 0 where
  pub settings : Settings
  -- the identifiers of the ring, the node's position, and the circuits of the ring
  pub ids : List ℕ
  pub at : Pos
  pub circuits : List Provisioned
  -- the number of rounds it has run
  pub rounds : ℕ
  -- the receiving half of each side
  pub west : Receiving
  pub east : Receiving
  pub state : NodeState
  -- the ports of circuits that are at the node
  pub ports : List Tributary
  -- the sending half of each side
  pub west_out : Sending
  pub east_out : Sending
  -- how many of the next rounds its controller misses
  pub held : ℕ
  -- the last round was calm
  pub calm : Bool

-- ---- a new node

-- a side that has received nothing
abbrev pub new_receiving : Settings → Receiving
new_receiving s = record {
  arrived = None;
  section = holding s.rate None;
  local = kept_of s.wait [];
  request = Nr;
  brought = nothing_brought;
  readings = replicate (n_of s.rate) start;
}

-- the node at a position of a ring with these circuits: idle, without commands and defects
unfoldable pub new_node : Settings → List ℕ → List Provisioned → Pos → Node
new_node s ids circuits at = record {
  settings = s;
  ids = ids;
  at = at;
  circuits = circuits;
  rounds = 0;
  west = new_receiving s;
  east = new_receiving s;
  state = state.Idle tt;
  ports = tributaries_at at circuits;
  west_out = new_sending s.rate (first_word ids at.0 West);
  east_out = new_sending s.rate (first_word ids at.0 East);
  held = 0;
  calm = false;
}

-- the cross-connect of a new node
abbrev pub new_cross : Settings → List ℕ → List Provisioned → Pos → Cross
new_cross s ids circuits at = record {
  ids = ids;
  at = at;
  circuits = circuits;
  state = state.Idle tt;
  west = new_receiving s;
  east = new_receiving s;
  west_in = new_intake s.rate;
  east_in = new_intake s.rate;
}

-- ---- between rounds

-- a node with a change on the receiving half of one side
abbrev pub at_receiving : Side → (Receiving → Receiving) → Node → Node
at_receiving side f n = record n { west = if_west side f n.west; east = if_east side f n.east }

-- a node whose controller is held for `turns` rounds; they replace the rounds that are left of an earlier hold
abbrev pub held_for : ℕ → Node → Node
held_for turns n = record n { held = turns }

-- a node with `count` more pending slips at one of its ports
abbrev pub slips_at : PortId → Turn → ℕ → Node → Node
slips_at id turn count n = record n { ports = with_slips id turn count n.ports }

-- ---- a round, at a moment

-- the controller misses this round
abbrev pub is_held : Node → Bool
is_held n = nat_le 1 n.held

-- the cross-connect of the round: both sides took what arrived, and the state was decided from it
unfoldable pub crossing : ℕ → Node → Cross
crossing now n = after_decision (is_held n) (record {
  ids = n.ids;
  at = n.at;
  circuits = n.circuits;
  state = n.state;
  west = after_intake n.settings.threshold now n.west;
  east = after_intake n.settings.threshold now n.east;
  west_in = intake_of n.settings.threshold n.west;
  east_in = intake_of n.settings.threshold n.east;
})

-- the ports after the round: each has delivered what the new state connects to it, and has taken the next bytes of its
-- stream
unfoldable pub ports_after : Cross → List Tributary → List Tributary
ports_after x ports = all_fed (all_delivered x ports)

-- the sending half of a side, with the word of the round
abbrev pub with_next_word : Bool → Cross → Side → Sending → Sending
with_next_word held x side s = with_word (next_word held x side s.word) s

-- the node after a round with this cross-connect: each side has sent a frame, each port has sent and delivered, and one
-- round fewer is left for the controller to miss
unfoldable pub after_crossing : Cross → Node → Node
after_crossing x n = record n {
  rounds = n.rounds + 1;
  held = n.held - 1;
  west = x.west;
  east = x.east;
  state = x.state;
  ports = ports_after x n.ports;
  west_out = after_sending (input_at x (added_by n.ports) West) (with_next_word (is_held n) x West n.west_out);
  east_out = after_sending (input_at x (added_by n.ports) East) (with_next_word (is_held n) x East n.east_out);
}

-- the frames of both sides
pub record Frames : Type 0 where
  pub west : Frame
  pub east : Frame

unfoldable pub node_frames : Cross → Node → Frames
node_frames x n = record {
  west = frame_from (input_at x (added_by n.ports) West) (with_next_word (is_held n) x West n.west_out);
  east = frame_from (input_at x (added_by n.ports) East) (with_next_word (is_held n) x East n.east_out);
}

-- what is compared with the round before
abbrev pub compared_in : Receiving → ComparedIn
compared_in r = record { request = r.request; heard = hears r.brought; readings = r.readings }

abbrev pub compared_out : Sending → ComparedOut
compared_out s = record { word = s.word; generators = s.generators }

abbrev pub compared : Node → Compared
compared n = record {
  west = compared_in n.west;
  east = compared_in n.east;
  state = n.state;
  west_out = compared_out n.west_out;
  east_out = compared_out n.east_out;
}

-- a round ran before, and the controller doesn't miss this one
abbrev pub may_be_calm : Node → Bool
may_be_calm n = nat_le 1 n.rounds && not (is_held n)

-- The node `new` after a round, before which it was `old`. The round was calm where one ran before it, the controller
-- didn't miss it, and it changed nothing of what is compared.
unfoldable pub with_calm : Node → Node → Node
with_calm old new = record new { calm = may_be_calm old && same_compared (compared new) (compared old) }

-- the round: the node after it, and what it sends
unfoldable pub node_round : ℕ → Node → Node × Frames
node_round now n = (with_calm n (after_crossing (crossing now n) n), node_frames (crossing now n) n)

-- ---- what others read of a node

abbrev pub receiving_on : Side → Node → Receiving
receiving_on West n = n.west
receiving_on East n = n.east

abbrev pub sending_on : Side → Node → Sending
sending_on West n = n.west_out
sending_on East n = n.east_out

-- the moment at which the node ran its last round; 0 before the first
abbrev pub moment_of : Node → ℕ
moment_of n = n.west.local.moment

-- what a round leaves for the next one: the settings and the ports stay, one more round has run, the controller has one
-- round fewer to miss, and the moment is that of the round
pub record GoesOn (now : ℕ) (old new : Node) : Type 0 where
  pub settings : new.settings ≡ old.settings
  pub rounds : new.rounds ≡ old.rounds + 1
  pub held : new.held ≡ old.held - 1
  pub moment : moment_of new ≡ now
  pub ports : (id : PortId) → HasPort old.ports id → HasPort new.ports id

-- ---- what is true of every node

pub record IsNode (n : Node) : Type 0 where
  pub west_rate : n.west.section.rate ≡ n.settings.rate
  pub west_out_rate : n.west_out.section.rate ≡ n.settings.rate
  pub east_out_rate : n.east_out.section.rate ≡ n.settings.rate
  pub moments : n.east.local.moment ≡ n.west.local.moment
  pub held : n.held ≤ 100
  pub ports : All (IsTributary (n_of n.settings.rate / 2) n.rounds) n.ports

-- the last words of a node
abbrev pub sent_of : Node → Sent
sent_of n = record { west = n.west_out.word; east = n.east_out.word }

-- `needed` has the local request of each side in the node's last round and whether the side failed. `heard_by` has the
-- word heard on each side.
abbrev pub needed : Node → Needs
needed n = record {
  west = n.west.request;
  east = n.east.request;
  west_fails = is_failed n.west.local.defect;
  east_fails = is_failed n.east.local.defect;
}

abbrev pub heard_by : Node → Heard
heard_by n = record { west = hears n.west.brought; east = hears n.east.brought }

-- the last word of a node on a side
abbrev pub last_word_on : Side → Node → K
last_word_on d n = (sending_on d n).word
