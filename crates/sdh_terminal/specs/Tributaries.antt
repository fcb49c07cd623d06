-- The ports of circuits at a node, which add and drop their AU-4s.
use Rattle.std.specs.Prelude.{◌≡◌, ℕ, ◌+◌, ◌≤◌, Bool, ◌==◌, if◌then◌else◌, Option, IsSome, List, [], ◌∷◌, ◌++◌, length, map, find}
use Rattle.std.specs.Option.{option_map_or}
use Rattle.sdh_basics.specs.Indexed.{map_from}
use Rattle.sdh_ringmap.specs.declared.Pos.{Pos}
use Rattle.sdh_ringmap.specs.declared.Side.{Side}
use Rattle.sdh_ringmap.specs.declared.Side.TheVariants.{West, East}
use Rattle.sdh_circuits.specs.declared.Slot.{Slot}
use Rattle.sdh_circuits.specs.declared.End.{End}
use Rattle.sdh_circuits.specs.declared.End.TheVariants.{A, B}
use Rattle.sdh_circuits.specs.declared.PortId.{PortId}
use Rattle.sdh_circuits.specs.Provisioned.{Provisioned, same_port}
use Rattle.sdh_payload.specs.Customer.{Customer}
use Rattle.sdh_payload.specs.Feed.{Fed, new_feed, next_feed}
use Rattle.sdh_payload.specs.Stream.{stream_from}
use Rattle.sdh_payload.specs.declared.chunk.ChunkForm.{ChunkForm}
use Rattle.sdh_payload.specs.declared.chunk.ChunkForm.TheVariants.{Plain, Short, Long}
use Rattle.sdh_payload.specs.Chunk.{taken_len, laid_payload, laid_h3}
use Rattle.sdh_payload.specs.declared.clock.Turn.{Turn}
use Rattle.sdh_payload.specs.Clock.{IsClock, waiting, with_waiting, last_from}
use Rattle.sdh_pointer.specs.declared.reading.Action.{Action}
use Rattle.sdh_pointer.specs.declared.reading.Action.TheVariants as action
use Rattle.sdh_terminal.specs.Passing.{Input, no_input}
use Rattle.sdh_payload.specs.Outlet.{Outlet, silent}
use Rattle.sdh_terminal.specs.Outlets.{delivered_from}

pub record Tributary : Type 0 where
  pub port : PortId
  -- the side on which the port's circuit leaves the node, and the circuit's working slot
  pub side : Side
  pub slot : Slot
  -- the port's stream, of which each round takes the next bytes
  pub feed : Fed
  -- what the port delivered in the last round
  pub outlet : Outlet

-- ---- the ports at a node

-- a port that hasn't sent or delivered anything
abbrev pub new_tributary : ℕ → End → Side → Slot → Customer → Tributary
new_tributary circuit end side slot customer = record {
  port = record { circuit = circuit; end = end };
  side = side;
  slot = slot;
  feed = new_feed customer;
  outlet = silent;
}

-- The ports of circuit number i at a position. Port A is where the circuit's arc starts, and the circuit leaves it on
-- the east side. Port B is where the arc ends, and the circuit leaves it on the west side.
abbrev pub tributaries_of : Pos → ℕ → Provisioned → List Tributary
tributaries_of at i c =
    (if c.from.0 == at.0 then new_tributary i A East c.slot c.a ∷ [] else [])
    ++ (if c.to.0 == at.0 then new_tributary i B West c.slot c.b ∷ [] else [])

-- the ports at a position, of circuits that are numbered from i on
abbrev pub tributaries_from : Pos → ℕ → List Provisioned → List Tributary
tributaries_from at i [] = []
tributaries_from at i (c ∷ cs) = tributaries_of at i c ++ tributaries_from at (i + 1) cs

unfoldable pub tributaries_at : Pos → List Provisioned → List Tributary
tributaries_at at circuits = tributaries_from at 0 circuits

-- ---- a port among those of a node

abbrev pub is_port : PortId → Tributary → Bool
is_port id t = same_port t.port id

-- the port with this name
unfoldable pub port_of : PortId → List Tributary → Option Tributary
port_of id ports = find (is_port id) ports

-- one of these ports has this name
abbrev pub HasPort : List Tributary → PortId → Type 0
HasPort ports id = IsSome (port_of id ports)

-- what ports delivered in the last round, in their order
abbrev pub outlets_of : List Tributary → List Outlet
outlets_of ports = map (λ (t : Tributary). t.outlet) ports

-- what the port with this name delivered in the last round, and AIS where it isn't one of these
abbrev pub outlet_of : PortId → List Tributary → Outlet
outlet_of id ports = option_map_or (λ t. t.outlet) (port_of id ports) silent

-- the number of slips that wait at the port with this name, and 0 where it isn't one of these
abbrev pub waiting_of : PortId → List Tributary → ℕ
waiting_of id ports = option_map_or (λ t. waiting t.feed.clock) (port_of id ports) 0

-- ---- between rounds

-- a port with `count` more pending slips
abbrev pub slipped : Turn → ℕ → Tributary → Tributary
slipped turn count t = record t { feed = record t.feed { clock = with_waiting turn count t.feed.clock } }

-- these ports, with `count` more pending slips at the port with this name
unfoldable pub with_slips : PortId → Turn → ℕ → List Tributary → List Tributary
with_slips id turn count [] = []
with_slips id turn count (t ∷ ports) = if is_port id t then slipped turn count t ∷ ports else t ∷ with_slips id turn count ports

-- ---- what a port sends

-- What a port adds in a round: the payload of its AU-4 and the three H3 bytes, the action that its pointer generator is
-- asked for, and the pointer value after that action.
pub record AddedPayload : Type 0 where
  pub payload : List ℕ
  pub h3 : List ℕ
  pub action : Action
  pub value : ℕ

-- the action for a chunk of this form: a port that sends three bytes fewer or more justifies its pointer
abbrev pub action_of : ChunkForm → Action
action_of Plain = action.Normal
action_of Short = action.Up
action_of Long = action.Down

-- the bytes of its stream that a port sent in the last round
abbrev pub last_sent : Fed → List ℕ
last_sent feed = stream_from feed.port (last_from feed.clock) (taken_len feed.clock.form)

-- what a port adds in a round, by its feed after the round
unfoldable pub sent_by : Fed → AddedPayload
sent_by feed = record {
  payload = laid_payload feed.clock.form (last_sent feed);
  h3 = laid_h3 feed.clock.form (last_sent feed);
  action = action_of feed.clock.form;
  value = feed.clock.value;
}

-- what a port adds in a round, by its feed before the round
abbrev pub sent_in : Fed → AddedPayload
sent_in feed = sent_by (next_feed feed)

-- The input of a port's AU-4, by what the port adds. The pointer bytes before H3 are zeros here: the generator's word
-- takes their place.
abbrev pub input_by : AddedPayload → Input
input_by a = record { action = a.action; value = a.value; au = record { pointers = 0 ∷ 0 ∷ 0 ∷ 0 ∷ 0 ∷ 0 ∷ a.h3; payload = a.payload } }

-- what the port with this name adds in a round, by the ports before the round; AIS where it isn't one of them
abbrev pub added_by : List Tributary → PortId → Input
added_by ports id = option_map_or (λ t. input_by (sent_in t.feed)) (port_of id ports) no_input

-- what a port adds in a round, by the port after the round
abbrev pub own_input : Tributary → Input
own_input t = input_by (sent_by t.feed)

-- what the port with this name adds in a round, by the ports after the round; AIS where it isn't one of them
abbrev pub added_last : List Tributary → PortId → Input
added_last ports id = option_map_or own_input (port_of id ports) no_input

-- a port that has sent in a round; what it delivered stays
abbrev pub fed : Tributary → Tributary
fed t = record t { feed = next_feed t.feed }

unfoldable pub all_fed : List Tributary → List Tributary
all_fed ports = map_from (λ i t. fed t) 0 ports

-- ---- what a port delivers

-- a port after it has delivered what is dropped to it
abbrev pub delivered_with : (Tributary → Input) → Tributary → Tributary
delivered_with dropped t = record t { outlet = delivered_from (dropped t) }

abbrev pub all_delivered_with : (Tributary → Input) → List Tributary → List Tributary
all_delivered_with dropped ports = map_from (λ i t. delivered_with dropped t) 0 ports

-- ---- what is true of every port at a node with `slots` working slots, after `rounds` rounds

pub record IsTributary (slots rounds : ℕ) (t : Tributary) : Type 0 where
  pub first : 1 ≤ t.slot.0
  pub last : t.slot.0 ≤ slots
  pub offset : t.feed.port.offset ≤ 782
  pub clock : IsClock t.feed.port.offset rounds t.feed.clock
  pub few : waiting t.feed.clock ≤ 16

-- the payload and the H3 bytes that a port keeps are those that it sent last
pub record IsFed (feed : Fed) (payload h3 : List ℕ) : Type 0 where
  pub full : length payload ≡ 2349
  pub payload_is : payload ≡ (sent_by feed).payload
  pub h3_is : h3 ≡ (sent_by feed).h3
