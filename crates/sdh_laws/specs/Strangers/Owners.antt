-- Whose bytes an AU-4 holds, and when a port meets no stranger: no bytes of another customer.
use Rattle.std.specs.Prelude.{ℕ, ◌≡◌, ◌⊎◌, ◌<◌, ◌≤◌, ◌-◌, Some, List, [], ◌∷◌, slice_get}
use Rattle.sdh_frame.specs.Aus.{Au, ones}
use Rattle.sdh_circuits.specs.Provisioned.{Provisioned, customer_at}
use Rattle.sdh_circuits.specs.declared.End.{End}
use Rattle.sdh_circuits.specs.declared.PortId.{PortId}
use Rattle.sdh_payload.specs.Customer.{Customer}
use Rattle.sdh_payload.specs.Clock.{Clock}
use Rattle.sdh_payload.specs.Chunk.{taken}
use Rattle.sdh_payload.specs.Outlet.{Outlet, silent, delivering}
use Rattle.sdh_payload.specs.declared.chunk.ChunkForm.{ChunkForm}
use Rattle.sdh_circuits.specs.Ends.{other_end, port_id}
use Rattle.sdh_terminal.specs.Passing.{h3_of}
use Rattle.sdh_terminal.specs.Tributaries.{sent_in, input_by}
use Rattle.sdh_node.specs.Rings.Clocks.{clock_at, clocks_from}
use Rattle.sdh_node.specs.Rings.Held.{HeldRing, outlet_at}
use Rattle.sdh_node.specs.Rings.Rounds.{World}

-- the other port of the same circuit
abbrev pub other_port : PortId → PortId
other_port q = port_id q.circuit (other_end q.end)

-- What a port puts into its AU-4 in a round, where this is its clock before the round: the next bytes of its customer's
-- stream from where the clock stands.
abbrev pub put_by : Customer → Clock → Au
put_by customer clock = (input_by (sent_in (record { port = customer; clock = clock }))).au

-- the second AU-4 has its payload from the first, and its three bytes H3 too, or zeros in place of these
pub record HasBytesOf (from a : Au) : Type 0 where
  pub payload : a.payload ≡ from.payload
  pub h3 : (h3_of a.pointers ≡ h3_of from.pointers) ⊎ (h3_of a.pointers ≡ 0 ∷ 0 ∷ 0 ∷ [])

-- An AU-4 holds ones, which are nobody's bytes, or what this port put into its AU-4 in some round before round t. These
-- are the ports' clocks before each round.
pub data Holds (circuits : List Provisioned) (clocks : PortId → ℕ → Clock) (t : ℕ) (port : PortId) (a : Au) : Type 0 where
  nobodys : HasBytesOf ones a → Holds circuits clocks t port a
  customers : (c : Provisioned) (r : ℕ) → slice_get circuits port.circuit ≡ Some c → r < t
      → HasBytesOf (put_by (customer_at c port.end) (clocks port r)) a → Holds circuits clocks t port a

-- In round t a port delivers AIS, or a chunk with any pointer value. The chunk is taken from an AU-4 that holds ones,
-- or what the circuit's other port put into its AU-4 in some earlier round.
pub data MeetsNoStranger (circuits : List Provisioned) (clocks : PortId → ℕ → Clock) (t : ℕ) (port : PortId) (o : Outlet) : Type 0 where
  ais_comes : o ≡ silent → MeetsNoStranger circuits clocks t port o
  bytes_come : (value : ℕ) (form : ChunkForm) (a : Au) → o ≡ delivering value (taken form a.payload (h3_of a.pointers))
      → Holds circuits clocks t (other_port port) a → MeetsNoStranger circuits clocks t port o

-- no port of a ring met a stranger in the last round
abbrev pub NoneMeetsAStranger : (PortId → ℕ → Clock) → HeldRing → Type 0
NoneMeetsAStranger clocks r = (index : ℕ) (c : Provisioned) → slice_get r.circuits.circuits index ≡ Some c → (e : End)
    → MeetsNoStranger r.circuits.circuits clocks (r.rounds - 1) (port_id index e) (outlet_at r (port_id index e))

-- these are the clocks of a ring's ports before its next round
abbrev pub AreClocksOf : (PortId → ℕ → Clock) → HeldRing → Type 0
AreClocksOf clocks r =
    (index : ℕ) (c : Provisioned) → slice_get r.circuits.circuits index ≡ Some c → (e : End)
    → clock_at r (port_id index e) ≡ clocks (port_id index e) r.rounds

-- these are the clocks before each round from one world to another, where nothing but rounds happens between them
abbrev pub AreClocksBetween : (PortId → ℕ → Clock) → World → World → Type 0
AreClocksBetween clocks w left =
    (index : ℕ) (c : Provisioned) → slice_get w.ring.circuits.circuits index ≡ Some c → (e : End) (t : ℕ) → w.ring.rounds ≤ t
    → t < left.ring.rounds
    → clocks_from w (port_id index e) t ≡ clocks (port_id index e) t
