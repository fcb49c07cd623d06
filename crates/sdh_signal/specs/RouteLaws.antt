-- The laws of routes. They hold for every ring, given by the requests rs of its spans, and for all circuits of it. Each
-- node is in its settled state, and connects by that state.
use Rattle.std.specs.Prelude.{ℕ, suc, ◌≡◌, ◌+◌, ◌-◌, ◌*◌, ◌<◌, Bool, true, false, Some, List, length, slice_get}
use Rattle.sdh_ringmap.specs.Places.{opposite, span_at}
use Rattle.sdh_ringmap.specs.declared.Pos.{Pos}
use Rattle.sdh_ringmap.specs.declared.Side.{Side}
use Rattle.sdh_circuits.specs.Provisioned.{Provisioned}
use Rattle.sdh_circuits.specs.Provisioning.{AreCircuits}
use Rattle.sdh_circuits.specs.declared.End.{End}
use Rattle.sdh_squelch.specs.Table.{circuit_on}
use Rattle.sdh_nodestate.specs.declared.NodeState.{NodeState}
use Rattle.sdh_nodestate.specs.declared.NodeState.TheVariants as state
use Rattle.sdh_restoration.specs.Applied.{is_applied}
use Rattle.sdh_signal.specs.Settled.{settled}
use Rattle.sdh_bridge.specs.declared.Origin.{Origin}
use Rattle.sdh_ringmap.specs.Steps.{going}
use Rattle.sdh_circuits.specs.Ends.{other_end}
use Rattle.sdh_signal.specs.Walks.{Stand, stand, port, IsOver, Leads, working_in, carries_in, delivery}
use Rattle.sdh_signal.specs.Law.{IsRouted, IsAlongRoute, IsShort, Ends, ConnectsFree, is_pass, all_idle}
use Rattle.sdh_signal.specs.Rounds.{Spreads}

-- a port of a joined circuit is led to the circuit's other port over exactly `hops` spans; every other port is led to
-- AIS over fewer spans than the ring has
abbrev pub EachPortIsRouted : Type 0
EachPortIsRouted = (rs : List ℕ) (slots : ℕ) (cs : List Provisioned) → AreCircuits (length rs) slots cs
    → (index : ℕ) (c : Provisioned) → slice_get cs index ≡ Some c → (e : End)
    → IsRouted (length rs) (is_applied rs) (settled rs) cs index c e

-- the spans over which a port of a joined circuit is led are those of the route, in order; for port B in the opposite
-- order
abbrev pub EachWalkFollowsTheRoute : Type 0
EachWalkFollowsTheRoute = (rs : List ℕ) (slots : ℕ) (cs : List Provisioned) → AreCircuits (length rs) slots cs
    → (index : ℕ) (c : Provisioned) → slice_get cs index ≡ Some c → IsAlongRoute (length rs) (is_applied rs) (settled rs) cs c

-- a port that is led to a port at all is led to its own circuit's other port
abbrev pub NoPortMeetsAStranger : Type 0
NoPortMeetsAStranger = (rs : List ℕ) (slots : ℕ) (cs : List Provisioned) → AreCircuits (length rs) slots cs
    → (index : ℕ) (c : Provisioned) → slice_get cs index ≡ Some c → (e : End) (k q i : ℕ) (x : End)
    → Leads (length rs) (settled rs) cs c.slot.0 k (delivery (length rs) (settled rs) cs c e) (stand q (port i x))
    → (i ≡ index) × (x ≡ other_end e)

-- a walk has one end and one length, whatever the states of the nodes
abbrev pub EachWalkHasOneEnd : Type 0
EachWalkHasOneEnd = (n : ℕ) (state : ℕ → NodeState) (cs : List Provisioned) (m j k : ℕ) (x y z : Stand)
    → Leads n state cs m j x y → Leads n state cs m k x z → IsOver y.origin → IsOver z.origin → (j ≡ k) × (y ≡ z)

-- a walk from any position and any origin ends in AIS or at a port within 3n + 1 spans
abbrev pub EachWalkEnds : Type 0
EachWalkEnds = (rs : List ℕ) (slots : ℕ) (cs : List Provisioned) → AreCircuits (length rs) slots cs
    → (m p : ℕ) (o : Origin) → p < length rs → Ends (length rs) (settled rs) cs m (3 * length rs + 1) (stand p o)

-- in a ring of idle nodes what leaves a node in a working slot ends within n - 1 spans
abbrev pub IdleWalksAreShort : Type 0
IdleWalksAreShort = (n slots : ℕ) (cs : List Provisioned) → AreCircuits n slots cs
    → (d : Side) (q m : ℕ) → q < n → Ends n all_idle cs m (n - 1) (stand q (working_in n cs q (state.Idle tt) d m))

-- on the way round the ring from any position, either way, there is a node that doesn't pass through
abbrev pub TheProtectionRingIsOpen : Type 0
TheProtectionRingIsOpen = (rs : List ℕ) (d : Side) (p : ℕ) → p < length rs
    → (k : ℕ) × (k < length rs) × (is_pass (settled rs (going (length rs) d p (suc k))) ≡ false)

-- where the circuit in slot m may be carried over a chain, the same circuit is in that slot on the span at the far end
-- that leads away from the chain
abbrev pub ALoopedSlotMeetsItsOwnCircuit : Type 0
ALoopedSlotMeetsItsOwnCircuit = (n slots : ℕ) (cs : List Provisioned) → AreCircuits n slots cs
    → (d : Side) (q m : ℕ) (f : Pos) → q < n → f.0 < n → carries_in n cs q d m (Some f) ≡ true
    → circuit_on n cs (span_at n f.0 (opposite d)) m ≡ circuit_on n cs (span_at n q d) m

-- a route has at least one span, at most n - 1 where the circuit's arc is clear, and at most 2n - 3 where it isn't
abbrev pub RoutesAreShort : Type 0
RoutesAreShort = (rs : List ℕ) (slots : ℕ) (cs : List Provisioned) → AreCircuits (length rs) slots cs
    → (index : ℕ) (c : Provisioned) → slice_get cs index ≡ Some c → IsShort (length rs) (is_applied rs) c

-- what a node delivers or sends on comes over no applied span, so that no walk from there goes over one
abbrev pub NoWayCrossesAnAppliedSpan : Type 0
NoWayCrossesAnAppliedSpan =
    (rs : List ℕ) (cs : List Provisioned) (p : ℕ) (d : Side) (m : ℕ) → ConnectsFree (length rs) (is_applied rs) (settled rs) cs p d m

-- where steadiness takes w rounds for each span, all is steady w (3n + 1) rounds after round `first`
abbrev pub SteadinessSpreads : Type 0
SteadinessSpreads = (rs : List ℕ) (slots : ℕ) (cs : List Provisioned) → AreCircuits (length rs) slots cs
    → (m : ℕ) (steady : ℕ → ℕ → Origin → Bool) (first w : ℕ) → Spreads (length rs) (settled rs) cs m (λ t p o. steady t p o ≡ true) first w
    → (p : ℕ) (o : Origin) → p < length rs → steady (first + w * (3 * length rs + 1)) p o ≡ true
