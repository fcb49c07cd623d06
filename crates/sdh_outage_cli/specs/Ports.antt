-- The state of the listeners on a ring's ports.
use Rattle.std.specs.Prelude.{ℕ, zero, suc, ◌≡◌, ◌+◌, ◌-◌, ◌^◌, ◌≤◌, Option, Some, List, [], ◌∷◌, ◌++◌, length, map, slice_get}
use Rattle.sdh_circuits.specs.declared.End.{End}
use Rattle.sdh_circuits.specs.declared.End.TheVariants.{A, B}
use Rattle.sdh_circuits.specs.declared.PortId.{PortId}
use Rattle.sdh_circuits.specs.Provisioned.{Provisioned, customer_at}
use Rattle.sdh_circuits.specs.Ends.{other_end, port_id}
use Rattle.sdh_payload.specs.Customer.{Customer}
use Rattle.sdh_payload.specs.declared.delivered.Delivered.{Delivered}
use Rattle.sdh_node.specs.Rings.Held.{HeldRing}
use Rattle.sdh_node.specs.Rings.Rounds.{World}
use Rattle.sdh_report.specs.Lines.{settle_line}
use Rattle.sdh_node.specs.Node.{Node}
use Rattle.sdh_node.specs.Rings.Held.{place_of_port}
use Rattle.sdh_outage.specs.Kinds.{Whose}
use Rattle.sdh_outage.specs.Kept.{Heard, heard}
use Rattle.sdh_outage_cli.specs.Outages.{delivered_at, whose_in, PortOutage}
use Rattle.sdh_outage_cli.specs.Streams.{holder_of, AreNear}
use Rattle.sdh_outage_cli.specs.Lines.{told_line, settle_step_text, outage_changes_text}
use Rattle.sdh_outage_cli.specs.declared.listing.OutageListing.{OutageListing}
use Rattle.sdh_outage_cli.specs.declared.listing.OutageListing.TheVariants as listing
use Rattle.sdh_outage_cli.specs.declared.ports.ListenerPair.{ListenerPair}
use Rattle.sdh_outage_cli.specs.declared.streams.StreamPair.{StreamPair}

-- ---- between settle steps

-- the listeners of all circuits have heard of `rounds` rounds
abbrev pub AreAt : ℕ → List ListenerPair → Type 0
AreAt rounds items = (i : ℕ) (both : ListenerPair) → slice_get items i ≡ Some both → (both.a.round ≡ rounds) × (both.b.round ≡ rounds)

-- There are listeners for all circuits, and the customers' bytes that are near in the next round are there. Near in a
-- round are a customer's bytes from 71 chunks before the round's own to 6 after it (`near` in `sdh_outage/specs/Near`).
pub record AreReady (circuits : List Provisioned) (rounds : ℕ) (items : List ListenerPair) (streams : List StreamPair) : Type 0 where
  pub many : length items ≡ length circuits
  pub rounds_are : AreAt rounds items
  pub near : AreNear circuits rounds streams

-- ---- in a settle step

-- what a port delivered in the first rounds of a course, the latest first
abbrev pub delivered_in : PortId → ℕ → (ℕ → World) → List Delivered
delivered_in port zero at = []
delivered_in port (suc k) at = delivered_at (at (suc k)).ring port ∷ delivered_in port k at

-- the state of a listener on a port after these rounds, which it began with what the port delivered before them
abbrev pub listener_after : Customer → Whose → PortId → ℕ → (ℕ → World) → Heard
listener_after far whose port k at = heard far whose (at 0).ring.rounds (delivered_at (at 0).ring port) (delivered_in port k at)

-- the listeners on both ports of a circuit are in the state that the first k rounds of a course give
pub record IsListening (k : ℕ) (at : ℕ → World) (c : Provisioned) (index : ℕ) (both : ListenerPair) : Type 0 where
  pub at_a : both.a ≡ listener_after c.b (whose_in at index) (port_id index A) k at
  pub at_b : both.b ≡ listener_after c.a (whose_in at index) (port_id index B) k at

-- the listeners of all circuits are in the state that the first k rounds of a course give
pub record AreListening (at : ℕ → World) (k : ℕ) (items : List ListenerPair) (streams : List StreamPair) : Type 0 where
  pub few : (at 0).ring.rounds ≤ 2 ^ 31
  pub many : length items ≡ length (at k).ring.circuits.circuits
  pub circuits : (at k).ring.circuits ≡ (at 0).ring.circuits
  pub each : (i : ℕ) (c : Provisioned) (both : ListenerPair) → slice_get (at k).ring.circuits.circuits i ≡ Some c → slice_get items i ≡ Some both
      → IsListening k at c i both
  pub near : AreNear (at 0).ring.circuits.circuits ((at 0).ring.rounds + k) streams

-- ---- what listeners do

-- each of these listeners has heard at most `rounds` rounds
abbrev pub AreFew : ℕ → List ListenerPair → Type 0
AreFew rounds items = (i : ℕ) (both : ListenerPair) → slice_get items i ≡ Some both → (both.a.round ≤ rounds) × (both.b.round ≤ rounds)

-- the listeners of the circuit of this number began anew after the last round of a ring
pub record HaveBegun (r : HeldRing) (index : ℕ) (before after : ListenerPair) : Type 0 where
  pub a : (far : Customer) (whose : Whose) → after.a ≡ heard far whose before.a.round (delivered_at r (port_id index A)) []
  pub b : (far : Customer) (whose : Whose) → after.b ≡ heard far whose before.b.round (delivered_at r (port_id index B)) []

-- one more round was heard, in which this was delivered
abbrev pub HearsOne : Customer → Whose → Delivered → Heard → Heard → Type 0
HearsOne far whose now before after =
    (first : ℕ) (last : Delivered) (past : List Delivered) → before ≡ heard far whose first last past
    → after ≡ heard far whose first last (now ∷ past)

-- the listener on a port heard of a round in which it delivered this, where these bytes were near
abbrev pub ListensTo : Delivered → PortId → List StreamPair → Heard → Heard → Type 0
ListensTo now port streams before after =
    (circuits : List Provisioned) (c : Provisioned) → AreNear circuits before.round streams → slice_get circuits port.circuit ≡ Some c
    → HearsOne (customer_at c (other_end port.end)) (holder_of circuits port.circuit) now before after

-- the listener on a port heard what it delivered
abbrev pub Listens : HeldRing → PortId → List StreamPair → Heard → Heard → Type 0
Listens r port streams before after = ListensTo (delivered_at r port) port streams before after

-- the listeners of the circuit of this number heard what their ports delivered, where these bytes were near
pub record ListenersLooked (r : HeldRing) (streams : List StreamPair) (index : ℕ) (before after : ListenerPair) : Type 0 where
  pub a : Listens r (port_id index A) streams before.a after.a
  pub b : Listens r (port_id index B) streams before.b after.b

-- ---- node by node

-- how many ports each node of a ring has
abbrev pub ports_by_node : HeldRing → List ℕ
ports_by_node r = map (λ (n : Node). length n.ports) r.nodes

-- the listener on a port heard what it delivered, if the port is at this position, and heard of nothing otherwise
pub record HeardAt (r : HeldRing) (at : ℕ) (port : PortId) (streams : List StreamPair) (before after : Heard) : Type 0 where
  pub here : place_of_port r port ≡ at → Listens r port streams before after
  pub elsewhere : (place_of_port r port ≡ at → ⊥) → after ≡ before

-- so did the listeners on both ports of the circuit of this number
pub record LookedAt (r : HeldRing) (at : ℕ) (streams : List StreamPair) (index : ℕ) (before after : ListenerPair) : Type 0 where
  pub a : HeardAt r at (port_id index A) streams before.a after.a
  pub b : HeardAt r at (port_id index B) streams before.b after.b

-- the listeners on those ports of a circuit that are at this position have heard of few rounds
pub record AreFewAt (r : HeldRing) (at index : ℕ) (both : ListenerPair) : Type 0 where
  pub a : place_of_port r (port_id index A) ≡ at → both.a.round ≤ 2 ^ 31 + 65536
  pub b : place_of_port r (port_id index B) ≡ at → both.b.round ≤ 2 ^ 31 + 65536

-- ---- what they show

-- the outages that the listeners on both ports of a circuit counted
abbrev pub both_shown : Provisioned → ListenerPair → List PortOutage
both_shown c both = record { name = c.name; end = A; outage = both.a.outage } ∷ record { name = c.name; end = B; outage = both.b.outage }
    ∷ []

-- the outages that the listeners of all circuits counted
abbrev pub outages_shown : List Provisioned → List ListenerPair → List PortOutage
outages_shown [] items = []
outages_shown (c ∷ cs) [] = []
outages_shown (c ∷ cs) (both ∷ items) = record { name = c.name; end = A; outage = both.a.outage }
    ∷ record { name = c.name; end = B; outage = both.b.outage } ∷ outages_shown cs items

-- ---- what one of them shows

-- the listener on the port at an end
abbrev pub listener_at : ListenerPair → End → Heard
listener_at both A = both.a
listener_at both B = both.b

-- the lines of the port at that end of the circuit of this name
abbrev pub heard_lines : List Provisioned → List ℕ → End → Heard → List ℕ
heard_lines circuits name end h =
    outage_changes_text h.trace.changes (h.trace.count - 64) ++ told_line circuits (record { name = name; end = end; outage = h.outage })

-- the lines of a port, where its circuit is one of these and its listeners are there
abbrev pub outage_port_lines : List Provisioned → Option Provisioned → Option ListenerPair → End → List ℕ
outage_port_lines circuits (Some c) (Some both) end = heard_lines circuits c.name end (listener_at both end)
outage_port_lines circuits c both end = []

-- the lines of the settle step of this number, which ended with that round
abbrev pub shown_text : OutageListing → ℕ → ℕ → List Provisioned → List ListenerPair → List ℕ
shown_text listing.Ports number round cs items = settle_step_text number round cs (outages_shown cs items)
shown_text (listing.Trace port) number round cs items =
    settle_line number round ++ outage_port_lines cs (slice_get cs port.circuit) (slice_get items port.circuit) port.end
