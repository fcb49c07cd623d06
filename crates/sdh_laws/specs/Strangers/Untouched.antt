-- The laws of whom a change of a ring at rest doesn't touch: a circuit on whose arc no node switches a side. Its ports
-- deliver straight over the arc in every round, whatever happens elsewhere. Where nothing is asked on the arc none does.
use Rattle.std.specs.Prelude.{ℕ, ◌≡◌, ◌≢◌, ◌+◌, ◌<◌, true, false, Some, List, length, slice_get}
use Rattle.sdh_ringmap.specs.Arcs.{holds_span, is_clear}
use Rattle.sdh_ringmap.specs.Fibres.{is_cut}
use Rattle.sdh_ringmap.specs.Places.{span_at}
use Rattle.sdh_ringmap.specs.declared.Side.{Side}
use Rattle.sdh_ringmap.specs.declared.terms.Code.TheVariants.{Nr}
use Rattle.sdh_circuits.specs.Provisioned.{Provisioned, arc_of}
use Rattle.sdh_circuits.specs.Ends.{other_end, port_id}
use Rattle.sdh_circuits.specs.declared.End.{End}
use Rattle.sdh_circuits.specs.declared.PortId.{PortId}
use Rattle.sdh_payload.specs.Clock.{Clock}
use Rattle.sdh_restoration.specs.Applied.{is_applied}
use Rattle.sdh_restoration.specs.Changes.{Change, Fibre, Order, Hold, Slip, Now, Stretch, rounds_in}
use Rattle.sdh_restoration.specs.Due.{nothing_applied}
use Rattle.sdh_signal.specs.Law.{is_open}
use Rattle.sdh_node.specs.Node.{receiving_on}
use Rattle.sdh_node.specs.Rings.Held.{node_at, outlet_at}
use Rattle.sdh_node.specs.Rings.Laws.{MayHappen}
use Rattle.sdh_node.specs.Rings.Rounds.{World, round}
use Rattle.sdh_node.specs.Rings.Sides.{condition_to, world_in}
use Rattle.sdh_laws.specs.Carrying.Laws.{due_by_clocks}
use Rattle.sdh_laws.specs.Carrying.Windows.{layout_of, HasCircuits, span_requests_of}
use Rattle.sdh_laws.specs.Resting.Rest.{IsAtRest}
use Rattle.sdh_laws.specs.Strangers.Laws.{AllMay}

-- In the round that left this world no node switched a side towards a span of the circuit's arc, and no fibre of these
-- spans was cut.
abbrev pub NoneSwitchesOnArc : World → Provisioned → Type 0
NoneSwitchesOnArc w c =
    (p : ℕ) (d : Side) → p < length w.ring.ids → holds_span (length w.ring.ids) (arc_of (length w.ring.ids) c) (span_at (length w.ring.ids) p d) ≡ true
    → (is_open (node_at w.ring.nodes p).state d ≡ true) × (is_cut (condition_to w p d) ≡ false)

-- In the round that left this world neither end of a span of the circuit's arc asked for anything.
abbrev pub AsksNothingOnArc : World → Provisioned → Type 0
AsksNothingOnArc w c =
    (p : ℕ) (d : Side) → p < length w.ring.ids → holds_span (length w.ring.ids) (arc_of (length w.ring.ids) c) (span_at (length w.ring.ids) p d) ≡ true
    → (receiving_on d (node_at w.ring.nodes p)).request ≡ Nr

-- a change slips neither port of the circuit with this number
abbrev pub SlipsAnother : ℕ → Change → Type 0
SlipsAnother index (Fibre p d condition) = Unit {0}
SlipsAnother index (Order p d command) = Unit {0}
SlipsAnother index (Hold p turns) = Unit {0}
SlipsAnother index (Slip port turn count) = port.circuit ≢ index
SlipsAnother index (Now t) = Unit {0}

-- A ring is at rest, by these clocks of its ports, and no span of a circuit's arc is applied. Then anything may happen
-- but a slip of the circuit's own ports. As long as no node switches a side towards a span of the arc, and no fibre there
-- is cut, each port of the circuit delivers in every round what its other port sent one round a span before. So it has no
-- round of AIS, and no byte is lost, repeated or late.
abbrev pub UnswitchedPortsDeliver : Type 0
UnswitchedPortsDeliver =
    (w : World) (clocks : PortId → ℕ → Clock) → IsAtRest clocks w → HasCircuits (layout_of w) → (ss : List Stretch) → MayHappen w ss
    → (index : ℕ) (c : Provisioned) → slice_get w.ring.circuits.circuits index ≡ Some c → AllMay (λ v x. SlipsAnother index x) w ss
    → is_clear (length w.ring.ids) (is_applied (span_requests_of (round w))) (arc_of (length w.ring.ids) c) ≡ true
    → ((t : ℕ) → t < rounds_in ss → NoneSwitchesOnArc (round (world_in ss w t)) c) → (t : ℕ) → t < rounds_in ss → (e : End)
    → outlet_at (round (world_in ss w t)).ring (port_id index e)
    ≡ due_by_clocks (length w.ring.ids) nothing_applied c e (clocks (port_id index (other_end e))) (w.ring.rounds + t)

-- A ring is at rest, by these clocks of its ports, and nothing is asked on a circuit's arc. Then anything may happen but a
-- slip of the circuit's own ports, and any controllers may be held. As long as nothing is asked on the arc, each port of
-- the circuit delivers in every round what its other port sent one round a span before. What was asked there before the
-- ring came to rest doesn't matter.
abbrev pub UnaskedPortsDeliver : Type 0
UnaskedPortsDeliver =
    (w : World) (clocks : PortId → ℕ → Clock) → IsAtRest clocks w → HasCircuits (layout_of w) → (ss : List Stretch) → MayHappen w ss
    → (index : ℕ) (c : Provisioned) → slice_get w.ring.circuits.circuits index ≡ Some c → AllMay (λ v x. SlipsAnother index x) w ss
    → AsksNothingOnArc (round w) c → ((t : ℕ) → t < rounds_in ss → AsksNothingOnArc (round (world_in ss w t)) c) → (t : ℕ) → t < rounds_in ss
    → (e : End) → outlet_at (round (world_in ss w t)).ring (port_id index e)
    ≡ due_by_clocks (length w.ring.ids) nothing_applied c e (clocks (port_id index (other_end e))) (w.ring.rounds + t)
