-- The node where a port of a circuit is.
use Rattle.std.proofs.Common.{◌≡◌, ℕ, ◌<◌, false, List, Option, Some, None, length, get_or, refl, ap, sym, subst, ◌∙◌, arith}
use Rattle.std.specs.Prelude.{IsSome, All, slice_get, option_and_then}
use Rattle.std.proofs.lemmas.Option.{get_or_from_slice_get, slice_get-get_or, slice_get_within}
use Rattle.std.specs.Option.{option_map_or}
use Rattle.sdh_circuits.specs.declared.PortId.{PortId}
use Rattle.sdh_circuits.specs.Provisioned.{Provisioned, end_of}
use Rattle.sdh_payload.specs.Clock.{Clock, waiting}
use Rattle.sdh_terminal.specs.Tributaries.{Tributary, port_of, HasPort, outlet_of, waiting_of, tributaries_at}
use Rattle.sdh_node.specs.Node.{Node, new_node}
use Rattle.sdh_rounds.specs.Held.{IsPlaceOf, IsNodeOf}
use Rattle.sdh_node.specs.Rings.Clocks.{port_in, HasPortIn, clock_at, waiting_at}
use Rattle.sdh_node.specs.Rings.Fixed.{IsRested, IsRing}
use Rattle.sdh_node.proofs.RingLaws.Clocks.{clock_of}
use Rattle.sdh_terminal.proofs.Found.{found_has}
use Rattle.sdh_node.proofs.RingLaws.Keeping.{has_fixed, node_is, new_has}
use Rattle.sdh_ring.proofs.Rings.{count_of}
use Rattle.sdh_payload.specs.Outlet.{silent}
use Rattle.sdh_node.specs.Rings.Held.{HeldRing, nowhere, node_at, place_of_port, outlet_at}
use Rattle.sdh_ringmap.specs.Places.{position_of}
use Rattle.sdh_terminal.proofs.Found.{has_own}

-- what the port delivered is read at that node
outlet_is : (r : HeldRing) (id : PortId) (c : Provisioned) (n : Node) → slice_get r.circuits.circuits id.circuit ≡ Some c
    → slice_get r.nodes (end_of c id.end).0 ≡ Some n → outlet_at r id ≡ outlet_of id n.ports
unfolding outlet_at
outlet_is r id c n circuit node =
    ap (λ o. option_map_or (λ x. option_map_or (λ m. outlet_of id m.ports) (slice_get r.nodes (end_of x id.end).0) silent) o silent) circuit
    ∙ ap (λ o. option_map_or (λ (m : Node). outlet_of id m.ports) o silent) node

-- ---- the port of a circuit in the ring

place_at : (r : HeldRing) (id : PortId) (c : Provisioned) → slice_get r.circuits.circuits id.circuit ≡ Some c
    → place_of_port r id ≡ (end_of c id.end).0
unfolding place_of_port
place_at r id c is = ap (λ o. option_map_or (λ (c : Provisioned). (end_of c id.end).0) o (length r.nodes)) is

-- the port is at the node in this place, and the ring has that node
pub record IsOwned (r : HeldRing) (id : PortId) (p : ℕ) : Type 0 where
  pub place : p ≡ place_of_port r id
  pub inside : p < length r.nodes
  pub there : slice_get r.nodes p ≡ Some (node_at r.nodes p)
  pub has : HasPort (node_at r.nodes p).ports id

pub owned_at : (r : HeldRing) → IsRing r → (id : PortId) (p : ℕ) → IsPlaceOf r id p → IsOwned r id p
owned_at r h id p there =
    let cs = r.circuits.circuits in
    let c = there.circuit in
    let below : id.circuit < length cs = slice_get_within cs id.circuit c there.circuit_is in
    let read : get_or cs id.circuit c ≡ c = get_or_from_slice_get cs id.circuit c c there.circuit_is in
    let low : p < length r.ids = omega (arith, there.inside, count_of r h) in
    record {
      place = there.place ∙ sym (place_at r id c there.circuit_is);
      inside = there.inside;
      there = slice_get-get_or r.nodes p nowhere there.inside;
      has =
          has_fixed id (node_at r.nodes p) (new_node r.settings r.ids cs (position_of p))
          (node_is r.settings r.ids cs (length r.ids) r.nodes p nowhere h.nodes low)
          (new_has r.settings r.ids cs p id (subst (λ (q : ℕ). HasPort (tributaries_at (position_of q) cs) id) (sym there.place)
          (has_own cs c id below read)));
    }

pub owned_from : (r s : HeldRing) (id : PortId) (p : ℕ) → IsRing r → r ≡ s → IsPlaceOf r id p → IsOwned s id p
owned_from r s id p h same there = subst (λ (x : HeldRing). IsOwned x id p) same (owned_at r h id p there)

-- the port of a circuit at its node
pub has_port : (r : HeldRing) (id : PortId) (n : Node) → IsRing r → IsNodeOf r id n → HasPort n.ports id
has_port r id n h node =
    subst (λ (m : Node). HasPort m.ports id) (get_or_from_slice_get r.nodes node.at n nowhere node.there)
    (owned_at r h id node.at node.place).has

pub outlet_there : (r : HeldRing) (id : PortId) (n : Node) → IsNodeOf r id n → outlet_at r id ≡ outlet_of id n.ports
outlet_there r id n node =
    outlet_is r id node.place.circuit n node.place.circuit_is (ap (slice_get r.nodes) (sym node.place.place) ∙ node.there)

-- the same, by the position of that node
pub outlet_owned : (r s : HeldRing) (id : PortId) (p : ℕ) → r ≡ s → IsPlaceOf r id p → IsOwned s id p
    → outlet_at s id ≡ outlet_of id (node_at s.nodes p).ports
outlet_owned r s id p same place o =
    outlet_there s id (node_at s.nodes p) (record {
      at = p;
      place = subst (λ (x : HeldRing). IsPlaceOf x id p) same place;
      there = o.there;
    })

module _ (r : HeldRing) (id : PortId) (p : ℕ) (o : IsOwned r id p) where
  abbrev ports : List Tributary
  ports = (node_at r.nodes p).ports

  port_is : port_in r id ≡ port_of id ports
  port_is = ap (λ q. option_and_then (λ (n : Node). port_of id n.ports) q) (ap (slice_get r.nodes) (sym o.place) ∙ o.there)

  clock_is : clock_at r id ≡ clock_of (port_of id ports)
  unfolding clock_at
  clock_is = ap clock_of port_is

  waits_of : (x : Option Tributary) → option_map_or (λ (t : Tributary). waiting t.feed.clock) x 0 ≡ waiting (clock_of x)
  waits_of None = refl
  waits_of (Some t) = refl

  -- how many slips wait at it
  pub waits_there : waiting_of id ports ≡ waiting_at r id
  waits_there = waits_of (port_of id ports) ∙ sym (ap (λ (c : Clock). waiting c) clock_is)

pub waits_at : (r : HeldRing) (id : PortId) (n : Node) → IsRing r → IsNodeOf r id n → waiting_at r id ≡ waiting_of id n.ports
waits_at r id n h node =
    sym (waits_there r id node.at (owned_at r h id node.at node.place))
    ∙ ap (λ (m : Node). waiting_of id m.ports) (get_or_from_slice_get r.nodes node.at n nowhere node.there)

-- ---- the clocks of a ring that goes on

rested_in : (r : HeldRing) (id : PortId) (o : Option Node) →
    ((n : Node) → o ≡ Some n → All (λ (t : Tributary). IsRested t.feed.clock) n.ports)
    → IsSome (option_and_then (λ (n : Node). port_of id n.ports) o)
    → IsRested (clock_of (option_and_then (λ (n : Node). port_of id n.ports) o))
rested_in r id None all there = absurd (cc)
rested_in r id (Some n) all there = by (port_of id n.ports) refl there
  where
    by : (x : Option Tributary) → port_of id n.ports ≡ x → IsSome x → IsRested (clock_of x)
    by None e some = absurd (cc)
    by (Some t) e some = (found_has (λ (t : Tributary). IsRested t.feed.clock) id n.ports t (all n refl) e).0

pub rested_there : (r : HeldRing) → IsRing r → r.broken ≡ false → (id : PortId) → HasPortIn r id → IsRested (clock_at r id)
unfolding clock_at
rested_there r h whole id there =
    rested_in r id (slice_get r.nodes (place_of_port r id))
    (λ n at. subst (λ (m : Node). All (λ (t : Tributary). IsRested t.feed.clock) m.ports)
    (get_or_from_slice_get r.nodes (place_of_port r id) n n at)
    (h.going whole (place_of_port r id) n (slice_get_within r.nodes (place_of_port r id) n at)).clocks) there
