-- How many rounds before it comes what a port delivers was sent, exactly: one for each span that it came over.
use Rattle.std.specs.Prelude.{ℕ, ◌≡◌, ◌+◌, ◌-◌, ◌≤◌, Some, List, length, slice_get}
use Rattle.sdh_frame.specs.Aus.{Au, ones}
use Rattle.sdh_circuits.specs.Provisioned.{Provisioned, arc_of, customer_at}
use Rattle.sdh_circuits.specs.declared.End.{End}
use Rattle.sdh_circuits.specs.declared.PortId.{PortId}
use Rattle.sdh_circuits.specs.Ends.{port_id}
use Rattle.sdh_payload.specs.Clock.{Clock}
use Rattle.sdh_payload.specs.Chunk.{taken}
use Rattle.sdh_payload.specs.Outlet.{Outlet, silent, delivering}
use Rattle.sdh_payload.specs.declared.chunk.ChunkForm.{ChunkForm}
use Rattle.sdh_terminal.specs.Passing.{h3_of}
use Rattle.sdh_node.specs.Rings.Held.{HeldRing, outlet_at}
use Rattle.sdh_laws.specs.Strangers.Owners.{other_port, put_by, HasBytesOf}

-- In a ring of n nodes bytes are in transit for so many rounds, over an arc of `spans` spans. They come straight over
-- the arc. Or they come once round the ring: `past` spans of the arc are left out, and the bytes come over all other
-- spans of the ring in place of these.
pub data IsTransit (n spans rounds : ℕ) : Type 0 where
  straight : rounds ≡ spans → IsTransit n spans rounds
  once_round : (past : ℕ) → 1 ≤ past → past ≤ spans → rounds ≡ (spans - past) + (n - past) → IsTransit n spans rounds

-- An AU-4 holds ones, which are nobody's bytes, or what this port put into its AU-4 exactly one transit before round t.
-- `clocks` gives the clock of each port before each round.
pub data HoldsAfterTransit (n : ℕ) (circuits : List Provisioned) (clocks : PortId → ℕ → Clock) (t : ℕ) (port : PortId) (a : Au) : Type 0 where
  nobodys : HasBytesOf ones a → HoldsAfterTransit n circuits clocks t port a
  customers : (c : Provisioned) (r rounds : ℕ) → slice_get circuits port.circuit ≡ Some c → IsTransit n (arc_of n c).spans rounds
      → r + rounds ≡ t → HasBytesOf (put_by (customer_at c port.end) (clocks port r)) a → HoldsAfterTransit n circuits clocks t port a

-- In round t a port delivers AIS, or a chunk with any pointer value. The chunk is taken from an AU-4 that holds ones,
-- or what the other port of the circuit put into its AU-4 exactly one transit before.
pub data ComesAfterTransit (n : ℕ) (circuits : List Provisioned) (clocks : PortId → ℕ → Clock) (t : ℕ) (port : PortId)
    (o : Outlet) : Type 0 where
  ais_comes : o ≡ silent → ComesAfterTransit n circuits clocks t port o
  bytes_come : (value : ℕ) (form : ChunkForm) (a : Au) → o ≡ delivering value (taken form a.payload (h3_of a.pointers))
      → HoldsAfterTransit n circuits clocks t (other_port port) a → ComesAfterTransit n circuits clocks t port o

-- what each port of a ring delivered in the last round is AIS, ones, or its own customer's, exactly one transit old
abbrev pub AllComeAfterTransit : (PortId → ℕ → Clock) → HeldRing → Type 0
AllComeAfterTransit clocks r = (index : ℕ) (c : Provisioned) → slice_get r.circuits.circuits index ≡ Some c → (e : End)
    → ComesAfterTransit (length r.ids) r.circuits.circuits clocks (r.rounds - 1) (port_id index e) (outlet_at r (port_id index e))
