-- Each port delivers what it is owed.
use Rattle.std.proofs.Common.{◌≡◌, ℕ, suc, ◌+◌, ◌-◌, ◌*◌, ◌<◌, ◌≤◌, Bool, true, false, Some, List, length, refl, ap, sym, ◌∙◌, subst, arith}
use Rattle.std.proofs.Common.{inl, inr}
use Rattle.std.specs.Prelude.{slice_get, if◌then◌else◌, option_and_then, IsSome, All}
use Rattle.std.specs.Option.{option_map_or}
use Rattle.std.proofs.lemmas.Bool.{cases_Bool}
use Rattle.std.proofs.lemmas.Option.{slice_get-get_or, get_or_from_slice_get, slice_get_within}
use Rattle.sdh_ringmap.specs.Arcs.{is_joined}
use Rattle.sdh_ringmap.specs.declared.Side.{Side}
use Rattle.sdh_ringmap.specs.declared.Side.TheVariants.{West, East}
use Rattle.sdh_circuits.specs.Provisioned.{Provisioned, arc_of, customer_at, end_of}
use Rattle.sdh_circuits.specs.Provisioning.{HasOffsets, AreCircuits, IsInSlots}
use Rattle.sdh_circuits.specs.declared.End.{End}
use Rattle.sdh_circuits.specs.declared.End.TheVariants.{A, B}
use Rattle.sdh_circuits.specs.declared.PortId.{PortId}
use Rattle.sdh_payload.specs.Customer.{Customer}
use Rattle.sdh_payload.specs.declared.chunk.ChunkForm.TheVariants.{Plain}
use Rattle.sdh_payload.proofs.Clocking.{goes_plain}
use Rattle.sdh_payload.specs.Clock.{Clock, IsClock, waiting, next_form, ticks}
use Rattle.sdh_nodestate.specs.declared.NodeState.{NodeState}
use Rattle.sdh_nodestate.specs.declared.NodeState.TheVariants as state
use Rattle.sdh_bridge.specs.declared.Origin.{Origin}
use Rattle.sdh_bridge.specs.declared.Origin.TheVariants.{Add, Working, Protection, Ais}
use Rattle.sdh_bridge.specs.Connections.{stands_for}
use Rattle.sdh_restoration.specs.Applied.{is_applied}
use Rattle.sdh_signal.specs.Settled.{settled}
use Rattle.sdh_restoration.specs.Routes.{hops}
use Rattle.sdh_circuits.specs.Ends.{other_end, port_id}
use Rattle.sdh_restoration.specs.Due.{due}
use Rattle.sdh_signal.specs.Walks.{port, port_at, carries_in, stands_in, delivery}
use Rattle.sdh_circuits.specs.Ends.{inward}
use Rattle.sdh_signal.proofs.Ways.{IsKeptOver, end_inside, joined_arrives, parted_arrives}
use Rattle.sdh_terminal.specs.Passing.{Input, no_input}
use Rattle.sdh_payload.specs.Outlet.{Outlet, silent}
use Rattle.sdh_terminal.specs.Outlets.{delivered_from}
use Rattle.sdh_terminal.specs.Tributaries.{Tributary, sent_in, input_by, added_by, port_of, outlet_of}
use Rattle.sdh_terminal.specs.Lines.{fed_by, dropped_by}
use Rattle.sdh_node.specs.Crossing.{Cross, feeder_of, lines_of, dropped_at}
use Rattle.sdh_node.specs.Node.{Node, crossing, ports_after, after_crossing, with_calm, node_round}
use Rattle.sdh_node.specs.Rings.Held.{outlet_at, place_of_port, nowhere, node_at}
use Rattle.sdh_node.specs.Rings.Clocks.{port_in, HasPortIn, clock_at, clocks_from}
use Rattle.sdh_node.proofs.RingLaws.Clocks.{clock_of, goes_run}
use Rattle.sdh_terminal.proofs.Found.{found_has}
use Rattle.sdh_node.specs.Rings.Rounds.{World, round, node_after}
use Rattle.sdh_node.specs.Rings.Runs.{run}
use Rattle.sdh_laws.specs.Hearing.Signalling.{crossing_at}
use Rattle.sdh_laws.specs.Hearing.Laws.{IsWhole, NoneWait}
use Rattle.sdh_laws.proofs.hearing.Nodes.{informed, count, length-after, listening_at, nodes_after}
use Rattle.sdh_laws.proofs.hearing.Rounds.{whole_round}
use Rattle.sdh_laws.proofs.hearing.Changes.{whole_run}
use Rattle.sdh_laws.proofs.hearing.Staying.{left_run}
use Rattle.sdh_spans.specs.Brought.{BringsDelivery, HasValue, plainly}
use Rattle.sdh_spans.proofs.Ports.{ports_deliver, ports_bring}
use Rattle.sdh_laws.specs.Carrying.Windows.{Layout, layout_of, positions_of, slots_of, HasCircuits, value_at, AreSettled, IsQuiet}
use Rattle.sdh_laws.specs.Carrying.Laws.{due_by_clocks, DeliversItsDue, QuietRingsDeliverWhatIsDue}
use Rattle.sdh_laws.proofs.carrying.Connections.{node_of, state_in_turn, drops_is}
use Rattle.sdh_terminal.proofs.Found.{IsPortOf, port-found}
use Rattle.sdh_laws.proofs.carrying.Ports.{HasDelivered, port-delivered}
use Rattle.sdh_laws.proofs.carrying.Clocks.{port_there, form_there}
use Rattle.sdh_laws.proofs.carrying.Ways.{layout_round, layout_run, kept_over, comes_in, from_comes, comes_over}
use Rattle.sdh_rounds.specs.Runs as any_run
use Rattle.sdh_rounds.proofs.Terms.{terms}

-- ---- what the port at the other end sends

sends_it : (t : Tributary) (sender : Customer) → t.feed.port ≡ sender → next_form t.feed.clock ≡ Plain
    → BringsDelivery (input_by (sent_in t.feed)) (plainly sender t.feed.clock)
sends_it t sender from plain =
    subst (λ (s : Customer). BringsDelivery (input_by (sent_in t.feed)) (plainly s t.feed.clock)) from (ports_bring t.feed plain)

-- In a ring of this layout a port that justifies nothing in the round that begins with v sends the next bytes of its
-- customer, by the clock that it has in that round.
abbrev pub Sends : Layout → World → Type 0
Sends l v = (m index : ℕ) (c : Provisioned) (e : End) → slice_get l.circuits index ≡ Some c → port_at c e < positions_of l
    → form_there v (port_at c e) (port_id index e) ≡ Plain → BringsDelivery (value_at v (port_at c e) m (port index e))
    (plainly (customer_at c e) (clock_at v.ring (port_id index e)))

-- the clock of each port has a pointer value of at most 782
abbrev pub HasSmall : Layout → World → Type 0
HasSmall l v =
    (index : ℕ) (c : Provisioned) (e : End) → slice_get l.circuits index ≡ Some c → port_at c e < positions_of l → (customer_at c e).offset ≤ 782
    → (clock_at v.ring (port_id index e)).value ≤ 782

-- the port of each circuit is in the ring
abbrev pub IsThere : Layout → World → Type 0
IsThere l v =
    (index : ℕ) (c : Provisioned) (e : End) → slice_get l.circuits index ≡ Some c → port_at c e < positions_of l
    → HasPortIn v.ring (port_id index e)

module _ (v : World) (whole : IsWhole v) (index : ℕ) (c : Provisioned) (e : End) (get : slice_get v.ring.circuits.circuits index ≡ Some c)
    (lt : port_at c e < length v.ring.ids) where
  abbrev id : PortId
  id = port_id index e

  abbrev p : ℕ
  p = port_at c e

  h : p < length v.ring.nodes
  h = omega (arith, count v whole.placed, lt)

  pub found : IsPortOf c e (port_there v p id)
  found = port-found v.ring.circuits.circuits (node_at v.ring.nodes p).ports index c e get (node_of v whole p h).ports_are

  same_end_place : (e : End) → (end_of c e).0 ≡ port_at c e
  same_end_place A = refl
  same_end_place B = refl

  port_is : port_in v.ring id ≡ port_there v p id
  unfolding place_of_port
  port_is =
      ap (λ o. option_and_then (λ (n : Node). port_of id n.ports)
      (slice_get v.ring.nodes (option_map_or (λ (c : Provisioned). (end_of c id.end).0) o (length v.ring.nodes)))) get
      ∙ ap (λ q. option_and_then (λ (n : Node). port_of id n.ports) (slice_get v.ring.nodes q)) (same_end_place e)
      ∙ ap (λ o. option_and_then (λ (n : Node). port_of id n.ports) o) (slice_get-get_or v.ring.nodes p nowhere h)

  pub clock_is : clock_at v.ring id ≡ found.it.feed.clock
  unfolding clock_at
  clock_is = ap clock_of (port_is ∙ found.is)

  there : HasPortIn v.ring id
  there = subst (λ o. IsSome o) (sym (port_is ∙ found.is)) refl

  -- where no slip waits at any port of its node, none waits at the port, and it sends 2349 bytes
  pub none_here : NoneWait (node_at v.ring.nodes p).ports → waiting (clock_at v.ring id) ≡ 0
  none_here none =
      ap waiting clock_is ∙ (found_has (λ (t : Tributary). waiting t.feed.clock ≡ 0) id
      (node_at v.ring.nodes p).ports found.it none found.is).0

  pub plain_here : NoneWait (node_at v.ring.nodes p).ports → form_there v p id ≡ Plain
  plain_here none =
      ap (λ o. next_form (clock_of o)) found.is ∙ goes_plain found.it.feed.clock
      (found_has (λ (t : Tributary). waiting t.feed.clock ≡ 0) id (node_at v.ring.nodes p).ports found.it none found.is).0

  sends_here : (m : ℕ) → form_there v p id ≡ Plain → BringsDelivery (value_at v p m (port index e)) (plainly (customer_at c e) (clock_at v.ring id))
  sends_here m plain =
      subst (λ k. BringsDelivery (value_at v p m (port index e)) (plainly (customer_at c e) k)) (sym clock_is)
      (subst (λ i. BringsDelivery i (plainly (customer_at c e) found.it.feed.clock))
      (sym (ap (λ o. option_map_or (λ (t : Tributary). input_by (sent_in t.feed)) o no_input) found.is))
      (sends_it found.it (customer_at c e) found.sender (ap (λ o. next_form (clock_of o)) (sym found.is) ∙ plain)))

  small_here : (customer_at c e).offset ≤ 782 → (clock_at v.ring id).value ≤ 782
  small_here small =
      let is =
      found_has (λ (t : Tributary). IsClock t.feed.port.offset v.ring.rounds t.feed.clock) id (node_at v.ring.nodes p).ports found.it
      (whole.placed.between p h).gone found.is in
      let offset : found.it.feed.port.offset ≡ (customer_at c e).offset = ap (λ (s : Customer). s.offset) found.sender in
      omega (arith, is.0.value_small (omega (arith, offset, small)), ap (λ (k : Clock). k.value) clock_is)

pub port_sends : (v : World) → IsWhole v → Sends (layout_of v) v
port_sends v whole m index c e get lt plain = sends_here v whole index c e get lt m plain

pub port_small : (v : World) → IsWhole v → HasSmall (layout_of v) v
port_small v whole index c e get lt small = small_here v whole index c e get lt small

pub port_is_there : (v : World) → IsWhole v → IsThere (layout_of v) v
port_is_there v whole index c e get lt = there v whole index c e get lt

-- ---- what a port delivers

-- what stands for a working arrival is no port
abbrev IsNoPort : Origin → Type 0
IsNoPort Ais = Unit {0}
IsNoPort (Add port) = ⊥
IsNoPort (Working d) = Unit {0}
IsNoPort (Protection d) = Unit {0}

either_way : (b : Bool) (o : Origin) → IsNoPort o → IsNoPort (if b then o else Ais)
either_way true o h = h
either_way false o h = tt

stands_no_port : (n : ℕ) (cs : List Provisioned) (p : ℕ) (st : NodeState) (d : Side) (m : ℕ) → IsNoPort (stands_in n cs p st d m)
unfolding stands_for
stands_no_port n cs p (state.Isolated i) d m = tt
stands_no_port n cs p (state.SwitchWest f) West m = either_way (carries_in n cs p West m f) (Protection East) tt
stands_no_port n cs p (state.SwitchWest f) East m = tt
stands_no_port n cs p (state.SwitchEast f) West m = tt
stands_no_port n cs p (state.SwitchEast f) East m = either_way (carries_in n cs p East m f) (Protection West) tt
stands_no_port n cs p (state.PassThrough i) d m = tt
stands_no_port n cs p (state.Idle i) d m = tt

same_input : (x : Cross) (added : PortId → Input) (m : ℕ) (o : Origin) → IsNoPort o
    → fed_by (lines_of x) added (feeder_of x m o) ≡ dropped_by (lines_of x) (feeder_of x m o)
same_input x added m Ais h = refl
same_input x added m (Add port) h = absurd h
same_input x added m (Working d) h = refl
same_input x added m (Protection d) h = refl

-- a node after a round has delivered what its circuits come in with
next-delivered : (now : ℕ) (n : Node) (id : PortId) (t : Tributary) → port_of id (node_after now n).ports ≡ Some t
    → HasDelivered (crossing now n) t
unfolding node_round with_calm after_crossing ports_after
next-delivered now n id t is = port-delivered (crossing now n) n.ports id t is

-- after a round, in settled states, a port whose delivery brings this has delivered it
abbrev pub Arrives : Layout → World → List ℕ → Outlet → Type 0
Arrives l v rs b =
    (index : ℕ) (c : Provisioned) (e : End) → slice_get l.circuits index ≡ Some c → port_at c e < positions_of l
    → AreSettled (positions_of l) rs (round v)
    → (let x = delivery (positions_of l) (settled rs) l.circuits c e in HasValue b → BringsDelivery (value_at v x.at c.slot.0 x.origin) b
    → outlet_at (round v).ring (port_id index e) ≡ b)

module _ (v : World) (whole : IsWhole v) where
  pub outlet_there : (index : ℕ) (c : Provisioned) (e : End) → slice_get v.ring.circuits.circuits index ≡ Some c
      → port_at c e < length v.ring.nodes → outlet_at v.ring (port_id index e)
      ≡ outlet_of (port_id index e) (node_at v.ring.nodes (port_at c e)).ports
  unfolding outlet_at
  outlet_there index c e get lt =
      let id = port_id index e in
      let p = port_at c e in
      let node : slice_get v.ring.nodes p ≡ Some (node_at v.ring.nodes p) = slice_get-get_or v.ring.nodes p nowhere lt in
      let place : (end_of c e).0 ≡ p = same_place e in
      ap (λ found. option_map_or (λ (c : Provisioned). option_map_or (λ (n : Node). outlet_of id n.ports)
      (slice_get v.ring.nodes (end_of c e).0) silent) found silent) get
      ∙ ap (λ q. option_map_or (λ (n : Node). outlet_of id n.ports) (slice_get v.ring.nodes q) silent) place
      ∙ ap (λ found. option_map_or (λ (n : Node). outlet_of id n.ports) found silent) node
    where
      same_place : (e : End) → (end_of c e).0 ≡ port_at c e
      same_place A = refl
      same_place B = refl

-- a port that is found there has delivered what its origin brought in the round
pub found_arrives : (v : World) (whole : IsWhole v) (index : ℕ) (c : Provisioned) (e : End) (h : port_at c e < length v.ring.nodes)
    (st : NodeState) → (crossing_at v (port_at c e)).state ≡ st
    → (t : IsPortOf c e (port_of (port_id index e) (node_at (round v).ring.nodes (port_at c e)).ports))
    → t.it.outlet ≡ delivered_from (value_at v (port_at c e) c.slot.0
    (stands_in (length v.ring.ids) v.ring.circuits.circuits (port_at c e) st (inward e) c.slot.0))
found_arrives v whole index c e h st state t =
    let p = port_at c e in
    let x = crossing_at v p in
    let m = c.slot.0 in
    let n = length v.ring.ids in
    let cs = v.ring.circuits.circuits in
    let done : HasDelivered (crossing v.ring.moment (informed v p)) t.it =
    next-delivered v.ring.moment (informed v p) (port_id index e) t.it
    (ap (λ (y : Node). port_of (port_id index e) y.ports) (sym (nodes_after v whole.placed p h)) ∙ t.is) in
    let did : HasDelivered x t.it =
    subst (λ y. HasDelivered (crossing v.ring.moment y) t.it) (sym (listening_at v whole.placed p h)) done in
    let from : dropped_at x t.it.side t.it.slot.0 ≡ dropped_at x (inward e) m = λ i. dropped_at x (t.side i) (t.slot i).0 in
    did ∙ ap delivered_from from ∙ ap (λ f. delivered_from (dropped_by (lines_of x) f)) (drops_is v whole p h m (inward e) st state)
    ∙ ap delivered_from (sym (same_input x (added_by (node_at v.ring.nodes p).ports) m (stands_in n cs p st (inward e) m)
    (stands_no_port n cs p st (inward e) m)))

-- the port of a circuit delivers what its node takes for its working arrival, in whatever state the node is
pub drops_so : (v : World) (whole : IsWhole v) (index : ℕ) (c : Provisioned) (e : End) → slice_get v.ring.circuits.circuits index ≡ Some c
    → port_at c e < length v.ring.ids → outlet_at (round v).ring (port_id index e)
    ≡ delivered_from (value_at v (port_at c e) c.slot.0 (stands_in (length v.ring.ids) v.ring.circuits.circuits (port_at c e)
    (node_at (round v).ring.nodes (port_at c e)).state (inward e) c.slot.0))
drops_so v whole index c e get low =
    let u = round v in
    let hu = whole_round v whole in
    let p = port_at c e in
    let h : p < length v.ring.nodes = omega (arith, count v whole.placed, low) in
    let hp : p < length u.ring.nodes = omega (arith, length-after v) in
    let there : slice_get u.ring.circuits.circuits index ≡ Some c =
    ap (λ (l : Layout). slice_get l.circuits index) (layout_round v) ∙ get in
    let t = port-found u.ring.circuits.circuits (node_at u.ring.nodes p).ports index c e there (node_of u hu p hp).ports_are in
    outlet_there u hu index c e there hp ∙ ap (λ found. option_map_or (λ (t : Tributary). t.outlet) found silent) t.is
    ∙ found_arrives v whole index c e h (node_at u.ring.nodes p).state (state_in_turn v whole p h) t

pub arrives : (v : World) (whole : IsWhole v) (rs : List ℕ) (b : Outlet) → Arrives (layout_of v) v rs b
unfolding delivery
arrives v whole rs b index c e get lt states has brings =
    let u = round v in
    let hu = whole_round v whole in
    let p = port_at c e in
    let h : p < length v.ring.nodes = omega (arith, count v whole.placed) in
    let hp : p < length u.ring.nodes = omega (arith, length-after v) in
    let there : slice_get u.ring.circuits.circuits index ≡ Some c =
    ap (λ (l : Layout). slice_get l.circuits index) (layout_round v) ∙ get in
    let t = port-found u.ring.circuits.circuits (node_at u.ring.nodes p).ports index c e there (node_of u hu p hp).ports_are in
    outlet_there u hu index c e there hp ∙ ap (λ found. option_map_or (λ (t : Tributary). t.outlet) found silent) t.is
    ∙ found_arrives v whole index c e h (settled rs p) (state_in_turn v whole p h ∙ states p lt) t ∙ ports_deliver _ b has brings

-- ---- circuits

pub offset_small : (cs : List Provisioned) → All HasOffsets cs → (index : ℕ) (c : Provisioned) → slice_get cs index ≡ Some c → (e : End)
    → (customer_at c e).offset ≤ 782
offset_small cs all index c get e =
    by (subst HasOffsets (get_or_from_slice_get cs index c c get) (all index c (slice_get_within cs index c get))) e
  where
    by : HasOffsets c → (e : End) → (customer_at c e).offset ≤ 782
    by h A = h.a
    by h B = h.b

pub slot_inside : (slots : ℕ) (cs : List Provisioned) → All (IsInSlots slots) cs → (index : ℕ) (c : Provisioned)
    → slice_get cs index ≡ Some c → IsInSlots slots c
slot_inside slots cs all index c get =
    subst (IsInSlots slots) (get_or_from_slice_get cs index c c get) (all index c (slice_get_within cs index c get))

-- ---- the law

module _ (w : World) (whole : IsWhole w) (form : HasCircuits (layout_of w)) (rs : List ℕ) (first last : ℕ)
    (quiet : IsQuiet (length w.ring.ids) rs w (suc first) (suc last)) (long : first + 2 * length w.ring.ids ≤ last)
    (index : ℕ) (c : Provisioned) (get : slice_get w.ring.circuits.circuits index ≡ Some c) (e : End) where
  abbrev size : ℕ
  size = length w.ring.ids

  abbrev applied : ℕ → Bool
  applied = is_applied rs

  open terms w use {cs}

  abbrev far : End
  far = other_end e

  abbrev left : World
  left = run (suc last) w

  inside : (e : End) → port_at c e < size
  inside e = end_inside size (slots_of (layout_of w)) cs form index c get e

  slot_is : IsInSlots (slots_of (layout_of w)) c
  slot_is = slot_inside (slots_of (layout_of w)) cs form.in_slots index c get

  abbrev In : Outlet → ℕ → ℕ → Origin → Type 0
  In b t p o = BringsDelivery (value_at (run t w) p c.slot.0 o) b

  -- what comes from a port on
  abbrev Comes : (b : Outlet) → HasValue b → ℕ → ℕ → Origin → Type 0
  Comes b small = comes_in w whole rs first last quiet c.slot.0 slot_is.from_1 slot_is.small b small

  form_rs : AreCircuits (length rs) (slots_of (layout_of w)) cs
  form_rs = subst (λ n. AreCircuits n (slots_of (layout_of w)) cs) (sym quiet.spans) form

  kept_rs : IsKeptOver (length rs) applied (settled rs) cs c.slot.0 (In silent) first last
  kept_rs =
      subst (λ n. IsKeptOver n applied (settled rs) cs c.slot.0 (In silent) first last) (sym quiet.spans)
      (kept_over w whole rs first last quiet c.slot.0 slot_is.from_1 slot_is.small silent refl)

  comes_rs : (b : Outlet) (small : HasValue b) → IsKeptOver (length rs) applied (settled rs) cs c.slot.0 (Comes b small) (suc first) last
  comes_rs b small =
      subst (λ n. IsKeptOver n applied (settled rs) cs c.slot.0 (Comes b small) (suc first) last) (sym quiet.spans)
      (comes_over w whole rs first last quiet c.slot.0 slot_is.from_1 slot_is.small b small)

  delivered_so : (b : Outlet) → HasValue b → (let x = delivery size (settled rs) cs c e in In b last x.at x.origin)
      → outlet_at left.ring (port_id index e) ≡ b
  unfolding any_run.run
  delivered_so b has is =
      subst (λ l. Arrives l (run last w) rs b) (layout_run w last) (arrives (run last w) (whole_run w last whole) rs b) index c e get
      (inside e) (quiet.settled_are (suc last) (omega arith) (omega arith)) has is

  abbrev Joined : (b : Outlet) → HasValue b → ℕ → Type 0
  Joined b small n = is_joined n applied (arc_of n c) ≡ true
      → (let h = hops n applied (arc_of n c) in (suc first + h ≤ last)
      × (Comes b small (last - h) (port_at c far) (port index far)
      → (let x = delivery n (settled rs) cs c e in Comes b small last x.at x.origin)))

  abbrev Parted : ℕ → Type 0
  Parted n = is_joined n applied (arc_of n c) ≡ false → (let x = delivery n (settled rs) cs c e in In silent last x.at x.origin)

  joined_so : (b : Outlet) (small : HasValue b) → Joined b small size
  joined_so b small =
      subst (Joined b small) quiet.spans (λ j. joined_arrives rs (slots_of (layout_of w)) cs form_rs index c get e (Comes b small)
      (suc first) last (comes_rs b small) (let s = quiet.spans in omega arith) j)

  -- what is delivered comes from no port of the node itself
  delivery_comes : (b : Outlet) (small : HasValue b) → (let x = delivery size (settled rs) cs c e in Comes b small last x.at x.origin
      → In b last x.at x.origin)
  unfolding delivery
  delivery_comes b small is =
      let p = port_at c e in
      let o = stands_in size cs p (settled rs p) (inward e) c.slot.0 in
      from_comes w whole rs first last quiet c.slot.0 slot_is.from_1 slot_is.small b small last p o
      (λ id is_port. absurd (subst IsNoPort is_port (stands_no_port size cs p (settled rs p) (inward e) c.slot.0))) is

  parted_so : Parted size
  parted_so =
      subst Parted quiet.spans (λ j. parted_arrives rs (slots_of (layout_of w)) cs form_rs index c get e (In silent) first last kept_rs
      (let s = quiet.spans in omega arith) j (λ t q. refl))

  -- the other port's clock before each round
  abbrev clocks : ℕ → Clock
  clocks = clocks_from w (port_id index far)

  abbrev owed : Clock → Outlet
  owed = plainly (customer_at c far)

  joined_delivers : is_joined size applied (arc_of size c) ≡ true
      → outlet_at left.ring (port_id index e) ≡ due_by_clocks size applied c e clocks (w.ring.rounds + last)
  unfolding due
  joined_delivers j =
      let k = hops size applied (arc_of size c) in
      let v = run (last - k) w in
      let hv = whole_run w (last - k) whole in
      let there = subst (λ l. slice_get l.circuits index ≡ Some c) (sym (layout_run w (last - k))) get in
      let clock = clock_at v.ring (port_id index far) in
      let small =
      subst (λ l. HasSmall l v) (layout_run w (last - k)) (port_small v hv) index c far get (inside far)
      (offset_small cs form.offsets index c get far) in
      let way = joined_so (owed clock) small j in
      let few = way.0 in
      let sends = subst (λ l. Sends l v) (layout_run w (last - k)) (port_sends v hv) c.slot.0 index c far get (inside far) in
      let gone : clock ≡ ticks (last - k) (clock_at w.ring (port_id index far)) =
      (goes_run (port_id index far) (last - k) w (port_is_there w whole index c far get (inside far))).1 in
      let number : last - k ≡ w.ring.rounds + last - k - w.ring.rounds = omega arith in
      delivered_so (owed clock) small (delivery_comes (owed clock) small (way.1 sends))
      ∙ ap owed (gone ∙ ap (λ t. ticks t (clock_at w.ring (port_id index far))) number)
      ∙ ap (λ t. if t then owed (clocks (w.ring.rounds + last - k)) else silent) (sym j)

  parted_delivers : is_joined size applied (arc_of size c) ≡ false
      → outlet_at left.ring (port_id index e) ≡ due_by_clocks size applied c e clocks (w.ring.rounds + last)
  unfolding due
  parted_delivers j =
      delivered_so silent refl (parted_so j) ∙ ap (λ t. if t
      then owed (clocks (w.ring.rounds + last - hops size applied (arc_of size c))) else silent) (sym j)

  pub delivers_due : outlet_at left.ring (port_id index e) ≡ due_by_clocks size applied c e clocks (w.ring.rounds + last)
  delivers_due = elim (cases_Bool (is_joined size applied (arc_of size c))) [ inl j ↦ joined_delivers j | inr j ↦ parted_delivers j ]

  pub delivers_after : DeliversItsDue (clocks_from w) left rs c index e
  delivers_after =
      let number : w.ring.rounds + last ≡ left.ring.rounds - 1 = (let r = (left_run (suc last) w).rounds in omega arith) in
      delivers_due ∙ ap (due_by_clocks size applied c e clocks) number
      ∙ ap (λ (l : Layout). due_by_clocks (positions_of l) applied c e clocks (left.ring.rounds - 1)) (sym (layout_run w (suc last)))

pub quiet_delivers : QuietRingsDeliverWhatIsDue
quiet_delivers w whole form rs first last quiet started long index c get e =
    let i = first - 1 in
    let j = last - 1 in
    let one : suc i ≡ first = omega arith in
    let end : suc j ≡ last = omega arith in
    let there : slice_get w.ring.circuits.circuits index ≡ Some c =
    ap (λ (l : Layout). slice_get l.circuits index) (sym (layout_run w last)) ∙ get in
    subst (λ k. DeliversItsDue (clocks_from w) (run k w) rs c index e) end
    (delivers_after w whole form rs i j (subst (λ k. IsQuiet (length w.ring.ids) rs w (suc i) k) (sym end)
    (subst (λ k. IsQuiet (length w.ring.ids) rs w k last) (sym one) quiet)) (omega arith) index c there e)
