-- Each port delivers what it is owed.
use Rattle.std.proofs.Common.{◌≡◌, ℕ, suc, ◌+◌, ◌-◌, ◌*◌, ◌<◌, ◌≤◌, Bool, true, false, List, length, Some, refl, ap, sym, ◌∙◌, subst, arith}
use Rattle.std.specs.Prelude.{slice_get, if◌then◌else◌, find, All, not, ◌/◌}
use Rattle.std.specs.Option.{option_map_or}
use Rattle.std.proofs.lemmas.Option.{slice_get-get_or, get_or_from_slice_get, slice_get_within}
use Rattle.sdh_ringmap.specs.Rates.{n_of}
use Rattle.sdh_ringmap.specs.declared.Side.{Side}
use Rattle.sdh_ringmap.specs.declared.Side.TheVariants.{West}
use Rattle.sdh_ringmap.specs.Places.{opposite}
use Rattle.sdh_ringmap.proofs.Going.{going-none, going-round}
use Rattle.sdh_circuits.specs.declared.End.{End}
use Rattle.sdh_circuits.specs.declared.End.TheVariants.{A, B}
use Rattle.sdh_circuits.specs.declared.PortId.{PortId}
use Rattle.sdh_circuits.specs.Provisioned.{Provisioned, customer_at, end_of}
use Rattle.sdh_circuits.specs.Provisioning.{HasOffsets, IsInRing, IsInSlots}
use Rattle.sdh_payload.specs.Customer.{Customer}
use Rattle.sdh_payload.specs.Outlet.{Outlet, silent}
use Rattle.sdh_pointer.specs.Laws.{is_ais_action}
use Rattle.sdh_ringmap.specs.Steps.{going}
use Rattle.sdh_circuits.specs.Ends.{other_end, port_id}
use Rattle.sdh_terminal.specs.Passing.{no_input}
use Rattle.sdh_terminal.specs.Lines.{received, dropped_by}
use Rattle.sdh_terminal.specs.Outlets.{delivered_from}
use Rattle.sdh_terminal.specs.Tributaries.{Tributary, is_port, port_of, outlet_of, fed, all_fed, delivered_with}
use Rattle.sdh_rounds.specs.Rounds as any_round
use Rattle.sdh_rounds.specs.Runs as any_run
use Rattle.sdh_spans.specs.Brought.{BringsDelivery}
use Rattle.sdh_spans.proofs.Ports.{ports_deliver}
use Rattle.sdh_sncp.specs.Node.{PathNode, PathCross, path_crossing, path_drops, path_dropped_to, lines_of, path_ports_after, after_path_crossing, path_with_calm}
use Rattle.sdh_sncp.specs.Node.{path_node_round, comes}
use Rattle.sdh_sncp.specs.Ring.{HeldPath, nowhere, path_node_at, World, outlet_at, path_node_after, round, run, course, is_calm, EndsWindow}
use Rattle.sdh_sncp.specs.Due.{way_clear, main_spans, spare_spans, sends_in, due_path}
use Rattle.sdh_circuits.specs.Ends.{inward}
use Rattle.sdh_sncp.specs.Laws.{IsWholePathRing, HasPathCircuits, cut_in, QuietRingsDeliver}
use Rattle.sdh_terminal.proofs.Found.{IsPortOf, port-found, found_one, twice}
use Rattle.sdh_sncp.proofs.Nodes.{informed, nodes_after, length-after}
use Rattle.sdh_sncp.proofs.Rounds.{whole_round, whole_run, left_run}
use Rattle.sdh_sncp.proofs.Spans.{crossing_at, came_at}
use Rattle.sdh_sncp.proofs.Ways.{both_arcs, main_leads, spare_leads, either, cut_same, comes_along}

-- ---- what is dropped

-- the main way's bytes, or else the spare way's, or else AIS
abbrev chosen : Bool → Bool → Outlet → Outlet → Outlet
chosen main spare a b = if main then a else if spare then b else silent

module _ (x : PathCross) (d : Side) (m : ℕ) (s : Customer) (t u : ℕ) (small : s.offset ≤ 782) where
  comes_if : (b : Bool) (e : Side) (k : ℕ) → BringsDelivery (received (lines_of x) e m) (either b (sends_in s k))
      → comes (received (lines_of x) e m) ≡ b
  comes_if true e k is = ap (λ a. not (is_ais_action a)) is.0
  comes_if false e k is = ap (λ a. not (is_ais_action a)) is

  pub drops_chosen : (a b : Bool) → BringsDelivery (received (lines_of x) d m) (either a (sends_in s t))
      → BringsDelivery (received (lines_of x) (opposite d) m) (either b (sends_in s u))
      → delivered_from (dropped_by (lines_of x) (path_drops x d m)) ≡ chosen a b (sends_in s t) (sends_in s u)
  unfolding path_drops delivered_from
  drops_chosen true b main spare =
      let first : comes (received (lines_of x) d m) ≡ true = comes_if true d t main in
      rw first (ports_deliver (received (lines_of x) d m) (sends_in s t) small main)
  drops_chosen false true main spare =
      let first : comes (received (lines_of x) d m) ≡ false = comes_if false d t main in
      let second : comes (received (lines_of x) (opposite d) m) ≡ true = comes_if true (opposite d) u spare in
      rw (first, second) (ports_deliver (received (lines_of x) (opposite d) m) (sends_in s u) small spare)
  drops_chosen false false main spare =
      let first : comes (received (lines_of x) d m) ≡ false = comes_if false d t main in
      let second : comes (received (lines_of x) (opposite d) m) ≡ false = comes_if false (opposite d) u spare in
      rw (first, second) nothing
    where
      nothing : delivered_from no_input ≡ silent
      nothing = refl

-- ---- what a port delivered

abbrev HasDelivered : PathCross → Tributary → Type 0
HasDelivered x t = t.outlet ≡ delivered_from (path_dropped_to x t)

port-delivered : (x : PathCross) (ts : List Tributary) (id : PortId) (t : Tributary) → port_of id (path_ports_after x ts) ≡ Some t
    → HasDelivered x t
unfolding port_of path_ports_after all_fed
port-delivered x ts id t is =
    found_one (HasDelivered x) id (λ i t. fed (delivered_with (path_dropped_to x) t)) 0 ts t (λ k u. refl)
    (ap (find (is_port id)) (sym (twice (λ i t. fed t) (λ i t. delivered_with (path_dropped_to x) t) 0 ts)) ∙ is)

next-delivered : (n : PathNode) (id : PortId) (t : Tributary) → port_of id (path_node_after n).ports ≡ Some t → HasDelivered (path_crossing n) t
unfolding path_node_round path_with_calm after_path_crossing
next-delivered n id t is = port-delivered (path_crossing n) n.ports id t is

outlet_there : (r : HeldPath) (index : ℕ) (c : Provisioned) (e : End) → slice_get r.circuits.circuits index ≡ Some c
    → (end_of c e).0 < length r.nodes → outlet_at r (port_id index e) ≡ outlet_of (port_id index e) (path_node_at r.nodes ((end_of c e).0)).ports
unfolding outlet_at
outlet_there r index c e get lt =
    let id = port_id index e in
    let p = (end_of c e).0 in
    let node : slice_get r.nodes p ≡ Some (path_node_at r.nodes p) = slice_get-get_or r.nodes p nowhere lt in
    ap (λ found. option_map_or (λ (c : Provisioned). option_map_or (λ (n : PathNode). outlet_of id n.ports)
    (slice_get r.nodes (end_of c e).0) silent) found silent) get
    ∙ ap (λ found. option_map_or (λ (n : PathNode). outlet_of id n.ports) found silent) node

-- what a port delivers in the round that begins with v
outlet_after : (v : World) (whole : IsWholePathRing v) (index : ℕ) (c : Provisioned) (e : End) → slice_get v.ring.circuits.circuits index ≡ Some c
    → (end_of c e).0 < length v.ring.nodes
    → outlet_at (round v).ring (port_id index e) ≡ delivered_from
    (dropped_by (lines_of (crossing_at v ((end_of c e).0))) (path_drops (crossing_at v ((end_of c e).0)) (inward e) c.slot.0))
unfolding any_round.round any_run.run
outlet_after v whole index c e get h =
    let p = (end_of c e).0 in
    let id = port_id index e in
    let hu = whole_round v whole in
    let hp : p < length (round v).ring.nodes = omega (arith, length-after v) in
    let there : slice_get (round v).ring.circuits.circuits index ≡ Some c =
    ap (λ ps. slice_get ps.circuits index) (left_run 1 v).circuits ∙ get in
    let t : IsPortOf c e (port_of id (path_node_at (round v).ring.nodes p).ports) =
    port-found (round v).ring.circuits.circuits (path_node_at (round v).ring.nodes p).ports index c e there (hu.placed.places p hp).ports in
    let did : HasDelivered (crossing_at v p) t.it =
    next-delivered (informed v p) id t.it (ap (λ (n : PathNode). port_of id n.ports) (sym (nodes_after v whole.placed p h)) ∙ t.is) in
    outlet_there (round v).ring index c e there hp ∙ ap (λ found. option_map_or (λ (t : Tributary). t.outlet) found silent) t.is ∙ did
    ∙ (λ i. delivered_from (dropped_by (lines_of (crossing_at v p)) (path_drops (crossing_at v p) (t.side i) (t.slot i).0)))

-- ---- circuits

pub offset_small : (cs : List Provisioned) → All HasOffsets cs → (index : ℕ) (c : Provisioned) → slice_get cs index ≡ Some c → (e : End)
    → (customer_at c e).offset ≤ 782
offset_small cs all index c get e =
    by (subst HasOffsets (get_or_from_slice_get cs index c c get) (all index c (slice_get_within cs index c get))) e
  where
    by : HasOffsets c → (e : End) → (customer_at c e).offset ≤ 782
    by h A = h.a
    by h B = h.b

-- ---- the law

module _ (w : World) (whole : IsWholePathRing w) (form : HasPathCircuits w.ring) (k : ℕ) (window : EndsWindow (course w) k) (index : ℕ)
    (c : Provisioned) (get : slice_get w.ring.circuits.circuits index ≡ Some c) (e : End) where
  abbrev size : ℕ
  size = length w.ring.ids

  abbrev last : ℕ
  last = k - 1

  abbrev v : World
  v = run last w

  some : 2 ≤ size
  some = whole.placed.ids.enough

  size_there : length (run k w).ring.ids ≡ size
  size_there = ap length (left_run k w).ids

  long : 3 * size ≤ k
  long = let l = window.long in let s = size_there in omega arith

  one : suc last ≡ k
  one = let l = long in let s = some in omega arith

  in_ring : IsInRing size c
  in_ring =
      subst (IsInRing size) (get_or_from_slice_get w.ring.circuits.circuits index c c get)
      (form.are.in_ring index c (slice_get_within w.ring.circuits.circuits index c get))

  in_slots : IsInSlots (n_of w.ring.settings.rate / 2) c
  in_slots =
      subst (IsInSlots (n_of w.ring.settings.rate / 2)) (get_or_from_slice_get w.ring.circuits.circuits index c c get)
      (form.are.in_slots index c (slice_get_within w.ring.circuits.circuits index c get))

  inside : (e : End) → (end_of c e).0 < size
  inside A = in_ring.from_inside
  inside B = in_ring.to_inside

  high : c.slot.0 ≤ n_of w.ring.settings.rate
  high = let s = in_slots.small in omega arith

  small : (customer_at c (other_end e)).offset ≤ 782
  small = offset_small w.ring.circuits.circuits form.are.offsets index c get (other_end e)

  arcs : (main_spans size c + spare_spans size c ≡ size) × (1 ≤ main_spans size c) × (1 ≤ spare_spans size c)
  arcs = let both = both_arcs size c.from.0 c.to.0 in_ring.from_inside in_ring.to_inside in_ring.two_ends in let a = both.0 in let b =
      both.1 in let d = both.2 in (omega arith, b, omega arith)

  calm_at : (s j : ℕ) → s < size → suc last ≤ j + s → j ≤ suc last → is_calm (run j w).ring.nodes ≡ true
  calm_at s j few low late = window.calm j (let z = size_there in let l = one in omega arith) (let l = one in omega arith)

  -- what comes in along a way
  along : (d : Side) (s : ℕ) → 1 ≤ s → s < size → going size d ((end_of c e).0) s ≡ (end_of c (other_end e)).0
      → BringsDelivery (came_at v ((end_of c e).0) d c.slot.0) (either (way_clear size (cut_in w) ((end_of c e).0) d s)
      (sends_in (customer_at c (other_end e)) (v.ring.rounds - s)))
  along d s more few leads =
      comes_along w whole form.alone index c get in_slots.from_1 high in_ring.two_ends inside e small d last s ((end_of c e).0) size more
      (let l = long in let o = one in omega arith) (inside e) leads
      (ap (going size d ((end_of c e).0)) (let z : size ≡ 0 + size = omega arith in z)
      ∙ going-round size (let z = some in omega arith) d ((end_of c e).0) 0
      ∙ going-none size (let z = some in omega arith) d ((end_of c e).0) (inside e)) few (omega arith)
      (λ j low late. calm_at s j few low late)

  main_comes : BringsDelivery (came_at v ((end_of c e).0) (inward e) c.slot.0)
      (either (way_clear size (cut_in w) ((end_of c e).0) (inward e) (main_spans size c))
      (sends_in (customer_at c (other_end e)) (v.ring.rounds - main_spans size c)))
  main_comes =
      along (inward e) (main_spans size c) arcs.1 (let a = arcs.0 in let b = arcs.2 in omega arith)
      (main_leads size (let z = some in omega arith) c in_ring.from_inside in_ring.to_inside e)

  spare_comes : BringsDelivery (came_at v ((end_of c e).0) (opposite (inward e)) c.slot.0)
      (either (way_clear size (cut_in w) ((end_of c e).0) (opposite (inward e)) (spare_spans size c))
      (sends_in (customer_at c (other_end e)) (v.ring.rounds - spare_spans size c)))
  spare_comes =
      along (opposite (inward e)) (spare_spans size c) arcs.2 (let a = arcs.0 in let b = arcs.1 in omega arith)
      (spare_leads size (let z = some in omega arith) c in_ring.from_inside in_ring.to_inside in_ring.two_ends e)

  due_is : (cut : ℕ → Side → Bool) → due_path size cut c e v.ring.rounds
      ≡ chosen (way_clear size cut ((end_of c e).0) (inward e) (main_spans size c))
      (way_clear size cut ((end_of c e).0) (opposite (inward e)) (spare_spans size c))
      (sends_in (customer_at c (other_end e)) (v.ring.rounds - main_spans size c))
      (sends_in (customer_at c (other_end e)) (v.ring.rounds - spare_spans size c))
  unfolding due_path
  due_is cut = refl

  get_there : slice_get v.ring.circuits.circuits index ≡ Some c
  get_there = ap (λ ps. slice_get ps.circuits index) (left_run last w).circuits ∙ get

  delivers : outlet_at (round v).ring (port_id index e) ≡ due_path size (cut_in w) c e v.ring.rounds
  delivers =
      outlet_after v (whole_run w last whole) index c e get_there
      (let a = (left_run last w).nodes in let b = whole.placed.size in let i = inside e in omega arith)
      ∙ drops_chosen (crossing_at v ((end_of c e).0)) (inward e) c.slot.0 (customer_at c (other_end e)) (v.ring.rounds - main_spans size c)
      (v.ring.rounds - spare_spans size c) small
      (way_clear size (cut_in w) ((end_of c e).0) (inward e) (main_spans size c))
      (way_clear size (cut_in w) ((end_of c e).0) (opposite (inward e)) (spare_spans size c)) main_comes spare_comes
      ∙ sym (due_is (cut_in w))

  pub delivers_due : outlet_at (run k w).ring (port_id index e)
      ≡ due_path (length (run k w).ring.ids) (cut_in (run k w)) c e ((run k w).ring.rounds - 1)
  unfolding any_run.run
  delivers_due =
      let now : round v ≡ run k w = same_run last ∙ ap (λ j. run j w) one in
      let number : v.ring.rounds ≡ (run k w).ring.rounds - 1 =
      (let a = (left_run last w).rounds in let b = (left_run k w).rounds in let o = one in omega arith) in
      let cuts : cut_in w ≡ cut_in (run k w) =
      λ i p d. sym (cut_same w whole form.alone index c get in_slots.from_1 high in_ring.two_ends inside e small West k p d) i in
      ap (λ (y : World). outlet_at y.ring (port_id index e)) (sym now) ∙ delivers
      ∙ (λ i. due_path (sym size_there i) (cuts i) c e (number i))
    where
      same_run : (j : ℕ) → round (run j w) ≡ run (suc j) w
      same_run j = refl

pub quiet_delivers : QuietRingsDeliver
quiet_delivers w k whole form window index c get e =
    delivers_due w whole form k window index c (ap (λ ps. slice_get ps.circuits index) (sym (left_run k w).circuits) ∙ get) e
