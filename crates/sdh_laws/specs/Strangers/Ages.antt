-- Since which round what an AU-4 holds was sent, and how old what a port delivers is at most.
use Rattle.std.specs.Prelude.{ℕ, ◌≡◌, ◌-◌, ◌<◌, ◌≤◌, Some, List, slice_get}
use Rattle.sdh_frame.specs.Aus.{Au, ones}
use Rattle.sdh_circuits.specs.Provisioned.{Provisioned, customer_at}
use Rattle.sdh_circuits.specs.declared.End.{End}
use Rattle.sdh_circuits.specs.declared.PortId.{PortId}
use Rattle.sdh_circuits.specs.Ends.{port_id}
use Rattle.sdh_payload.specs.Clock.{Clock}
use Rattle.sdh_payload.specs.Chunk.{taken}
use Rattle.sdh_payload.specs.Outlet.{Outlet, silent, delivering}
use Rattle.sdh_payload.specs.declared.chunk.ChunkForm.{ChunkForm}
use Rattle.sdh_terminal.specs.Passing.{h3_of}
use Rattle.sdh_node.specs.Rings.Held.{HeldRing, outlet_at}
use Rattle.sdh_laws.specs.Strangers.Owners.{other_port, put_by, HasBytesOf}

-- An AU-4 holds ones, which are nobody's bytes, or what this port put into its AU-4 in some round from `first` on,
-- before round t. `clocks` gives the clock of each port before each round.
pub data HoldsSince (circuits : List Provisioned) (clocks : PortId → ℕ → Clock) (first t : ℕ) (port : PortId) (a : Au) : Type 0 where
  nobodys : HasBytesOf ones a → HoldsSince circuits clocks first t port a
  customers : (c : Provisioned) (r : ℕ) → slice_get circuits port.circuit ≡ Some c → first ≤ r → r < t
      → HasBytesOf (put_by (customer_at c port.end) (clocks port r)) a → HoldsSince circuits clocks first t port a

-- In round t a port delivers AIS, or a chunk with any pointer value. The chunk is taken from an AU-4 that holds ones,
-- or what the other port of the circuit put into its AU-4 in some earlier round from `first` on.
pub data MeetsNoStrangerSince (circuits : List Provisioned) (clocks : PortId → ℕ → Clock) (first t : ℕ) (port : PortId)
    (o : Outlet) : Type 0 where
  ais_comes : o ≡ silent → MeetsNoStrangerSince circuits clocks first t port o
  bytes_come : (value : ℕ) (form : ChunkForm) (a : Au) → o ≡ delivering value (taken form a.payload (h3_of a.pointers))
      → HoldsSince circuits clocks first t (other_port port) a → MeetsNoStrangerSince circuits clocks first t port o

-- no port of a ring met a stranger in the last round, nor bytes that were sent before round `first`
abbrev pub NoneMeetsAStrangerSince : ℕ → (PortId → ℕ → Clock) → HeldRing → Type 0
NoneMeetsAStrangerSince first clocks r = (index : ℕ) (c : Provisioned) → slice_get r.circuits.circuits index ≡ Some c → (e : End)
    → MeetsNoStrangerSince r.circuits.circuits clocks first (r.rounds - 1) (port_id index e) (outlet_at r (port_id index e))
