-- The cross-connect of a node in a round: the receiving half of each side and what they take in, the state, and the
-- connections that the state makes (bridge and switch of shared protection rings: ITU-T G.841).
use Rattle.std.specs.Prelude.{◌≡◌, ℕ, ◌+◌, ◌-◌, ◌/◌, ◌<◌, Bool, true, false, nat_le, if◌then◌else◌, Option, List, length}
use Rattle.sdh_ringmap.specs.Rates.{n_of}
use Rattle.sdh_ringmap.specs.declared.Pos.{Pos}
use Rattle.sdh_ringmap.specs.declared.Side.{Side}
use Rattle.sdh_ringmap.specs.declared.Side.TheVariants.{West, East}
use Rattle.sdh_request.specs.declared.Defect.{Defect}
use Rattle.sdh_request.specs.declared.Defect.TheVariants as defect
use Rattle.sdh_kbytes.specs.declared.K.{K}
use Rattle.sdh_nodestate.specs.declared.NodeState.{NodeState}
use Rattle.sdh_nodestate.specs.declared.Needs.{Needs}
use Rattle.sdh_nodestate.specs.declared.Heard.{Heard}
use Rattle.sdh_nodestate.specs.Rules.{Scene, scene, state_after, word}
use Rattle.sdh_nodestate.specs.Filtering.{hears}
use Rattle.sdh_nodestate.specs.FarEnds.{far_of, IsElsewhere}
use Rattle.sdh_circuits.specs.declared.PortId.{PortId}
use Rattle.sdh_circuits.specs.Provisioned.{Provisioned}
use Rattle.sdh_squelch.specs.Table.{OnSpan, circuits_at}
use Rattle.sdh_bridge.specs.declared.Origin.{Origin}
use Rattle.sdh_bridge.specs.declared.Origin.TheVariants as origin
use Rattle.sdh_bridge.specs.Connections.{stands_for, leaves_working, leaves_protection}
use Rattle.sdh_terminal.specs.Receiving.{Intake}
use Rattle.sdh_node.specs.Receiving.{Receiving, after_intake, intake_of, if_west, if_east}
use Rattle.sdh_terminal.specs.Passing.{Input}
use Rattle.sdh_terminal.specs.Tributaries.{Tributary, delivered_with, all_delivered_with}
use Rattle.sdh_terminal.specs.Lines.{Lines, all_fed_by, dropped_by}
use Rattle.sdh_terminal.specs.declared.matrix.Feeder.{Feeder}
use Rattle.sdh_terminal.specs.declared.matrix.Feeder.TheVariants as feeder

pub record Cross : Type 0 where
  -- the identifiers of the ring, and the node's position
  pub ids : List ℕ
  pub at : Pos
  -- the circuits of the ring
  pub circuits : List Provisioned
  pub state : NodeState
  pub west : Receiving
  pub east : Receiving
  -- what both sides take in
  pub west_in : Intake
  pub east_in : Intake

abbrev pub receiving_side : Cross → Side → Receiving
receiving_side x West = x.west
receiving_side x East = x.east

-- a cross-connect with a change on one side
abbrev pub at_side : Side → (Receiving → Receiving) → Cross → Cross
at_side side f x = record x { west = if_west side f x.west; east = if_east side f x.east }

-- half of the rate's N, which is the number of working slots
abbrev pub half_of : Cross → ℕ
half_of x = n_of x.west.section.rate / 2

-- ---- the round

-- the cross-connect once both sides took what arrived, at the moment `now`, and all interpreters read it
unfoldable pub after_intakes : ℕ → ℕ → Cross → Cross
after_intakes threshold now x = record x {
  west = after_intake threshold now x.west;
  east = after_intake threshold now x.east;
  west_in = intake_of threshold x.west;
  east_in = intake_of threshold x.east;
}

abbrev pub is_failed : Defect → Bool
is_failed defect.None = false
is_failed defect.Sd = false
is_failed defect.Sf = true

-- `needs_of` has the local request of each side and whether the side fails. `heard_words` has the word heard on each
-- side.
abbrev pub needs_of : Cross → Needs
needs_of x = record {
  west = x.west.request;
  east = x.east.request;
  west_fails = is_failed x.west.local.defect;
  east_fails = is_failed x.east.local.defect;
}

abbrev pub heard_words : Cross → Heard
heard_words x = record { west = hears x.west.brought; east = hears x.east.brought }

unfoldable pub scene_of : Cross → Scene
scene_of x = scene x.ids x.at.0 (needs_of x) (heard_words x)

-- the state by the rules, or the one before in a round that the controller misses
unfoldable pub after_decision : Bool → Cross → Cross
after_decision held x = record x { state = if held then x.state else state_after (scene_of x) }

-- the word that is sent on a side where k was sent in the round before: the word of the rules, or k again in a held
-- round
unfoldable pub next_word : Bool → Cross → Side → K → K
next_word held x side k = if held then k else word (scene_of x) side

-- ---- the connections that the state makes

-- the slot of an AU-4
abbrev pub slot_of : Cross → ℕ → ℕ
slot_of x au = if nat_le au (half_of x) then au else au - half_of x

-- the circuit in a slot on the span of each side
abbrev pub circuit_in : Cross → ℕ → Side → Option OnSpan
circuit_in x m = circuits_at (length x.ids) x.circuits x.at.0 m

-- where AU-4 number au that leaves on a side comes from
abbrev pub leaving : Cross → Side → ℕ → Origin
leaving x side au =
    if nat_le au (half_of x) then leaves_working (length x.ids) x.at (circuit_in x (slot_of x au)) x.state side
    else leaves_protection (length x.ids) x.at (circuit_in x (slot_of x au)) x.state side

-- An origin in slot m, as a `Feeder`: a feeder names a received AU-4 by its side and number. Working slot m is AU-4
-- number m, and protection slot m is AU-4 number N / 2 + m.
abbrev pub feeder_of : Cross → ℕ → Origin → Feeder
feeder_of x m (origin.Add port) = feeder.Port port
feeder_of x m (origin.Working side) = feeder.Received side m
feeder_of x m (origin.Protection side) = feeder.Received side (half_of x + m)
feeder_of x m origin.Ais = feeder.Ais

-- both sides in the round
abbrev pub lines_of : Cross → Lines
lines_of x = record {
  rate = x.west.section.rate;
  west = record { readings = x.west.readings; intake = x.west_in };
  east = record { readings = x.east.readings; intake = x.east_in };
}

-- `leads` is the feeder of AU-4 number au that leaves on a side. `drops` is the feeder of what is dropped from slot m
-- of a side.
unfoldable pub leads : Cross → Side → ℕ → Feeder
leads x side au = feeder_of x (slot_of x au) (leaving x side au)

unfoldable pub drops : Cross → Side → ℕ → Feeder
drops x side m = feeder_of x m (stands_for (length x.ids) x.at (circuit_in x m) x.state side)

-- `input_at` is what goes into AU-4 number au that leaves on a side. `dropped_at` is what is dropped from slot m of a
-- side.
abbrev pub input_at : Cross → (PortId → Input) → Side → ℕ → Input
input_at x added side au = all_fed_by (lines_of x) added (leads x side) au

abbrev pub dropped_at : Cross → Side → ℕ → Input
dropped_at x side m = dropped_by (lines_of x) (drops x side m)

-- ---- deliveries

-- what a port is to deliver: what is dropped from the side and the slot of its circuit
abbrev pub dropped_to : Cross → Tributary → Input
dropped_to x t = dropped_at x t.side t.slot.0

abbrev pub delivered_to : Cross → Tributary → Tributary
delivered_to x t = delivered_with (dropped_to x) t

unfoldable pub all_delivered : Cross → List Tributary → List Tributary
all_delivered x ports = all_delivered_with (dropped_to x) ports

-- ---- what is true of every cross-connect

pub record IsCross (x : Cross) : Type 0 where
  pub inside : x.at.0 < length x.ids
  pub far : IsElsewhere (length x.ids) x.at.0 (far_of x.state)
  pub rates : x.east.section.rate ≡ x.west.section.rate
  pub west_rate : x.west_in.frame.rate ≡ x.west.section.rate
  pub east_rate : x.east_in.frame.rate ≡ x.west.section.rate
