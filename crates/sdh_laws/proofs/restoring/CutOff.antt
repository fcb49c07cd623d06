-- A port of a circuit whose ends are parted delivers AIS from round 5n on, whatever the ring carried and whatever its
-- pointers were: the node at the last applied span squelches it early, and AIS goes from there over three rounds a span.
use Rattle.std.proofs.Common.{◌≡◌, ℕ, zero, suc, ◌+◌, ◌-◌, ◌*◌, ◌<◌, ◌≤◌, false, Some, List, length, refl, ap, sym, ◌∙◌, subst, arith}
use Rattle.std.specs.Prelude.{slice_get, if◌then◌else◌}
use Rattle.std.proofs.lemmas.Option.{get_or_from_slice_get, slice_get_within}
use Rattle.sdh_ringmap.specs.Arcs.{is_joined}
use Rattle.sdh_ringmap.specs.Places.{neighbour, opposite}
use Rattle.sdh_ringmap.specs.Steps.{going}
use Rattle.sdh_ringmap.specs.declared.Side.{Side}
use Rattle.sdh_ringmap.specs.declared.Side.TheVariants.{West, East}
use Rattle.sdh_ringmap.proofs.Going.{going-back, going-inside}
use Rattle.sdh_ringmap.proofs.Sides.{opposite_twice}
use Rattle.sdh_circuits.specs.Ends.{inward, other_end, port_id}
use Rattle.sdh_circuits.specs.Provisioned.{Provisioned, arc_of, customer_at}
use Rattle.sdh_circuits.specs.Provisioning.{IsInSlots}
use Rattle.sdh_circuits.specs.declared.End.{End}
use Rattle.sdh_circuits.specs.declared.End.TheVariants.{A, B}
use Rattle.sdh_nodestate.specs.declared.NodeState.{NodeState}
use Rattle.sdh_nodestate.specs.Rules.{state_after}
use Rattle.sdh_payload.specs.Outlet.{silent}
use Rattle.sdh_pointer.specs.declared.reading.Action.TheVariants as action
use Rattle.sdh_restoration.specs.Applied.{is_applied}
use Rattle.sdh_restoration.specs.Due.{due}
use Rattle.sdh_restoration.specs.Routes.{hops}
use Rattle.sdh_signal.specs.Runs.{Run, at_round}
use Rattle.sdh_signal.specs.Law.{is_open}
use Rattle.sdh_signal.specs.Walks.{port_at, stands_in}
use Rattle.sdh_signal.proofs.Fixpoint.{same_requests}
use Rattle.sdh_signal.proofs.OnArcs.{near_at, near_end, seen-on}
use Rattle.sdh_signal.proofs.Parting.{IsCutOff, port_is_cut_off}
use Rattle.sdh_signal.proofs.Passing.{leaves-on, open-stands}
use Rattle.sdh_signal.proofs.RunRounds.{is_run, run_of}
use Rattle.sdh_signal.proofs.Seen.{Seen}
use Rattle.sdh_signal.proofs.Views.{AreOnRing, arc_length, on-ring}
use Rattle.sdh_spans.specs.Brought.{plainly}
use Rattle.sdh_terminal.specs.Outlets.{delivered_by, delivered_from}
use Rattle.sdh_node.specs.Rings.Clocks.{clocks_from}
use Rattle.sdh_node.specs.Rings.Held.{node_at, outlet_at}
use Rattle.sdh_node.specs.Rings.Rounds.{World}
use Rattle.sdh_node.specs.Rings.Runs.{run}
use Rattle.sdh_rounds.specs.Runs as any_run
use Rattle.sdh_laws.specs.Hearing.Laws.{IsWhole}
use Rattle.sdh_laws.specs.Carrying.Laws.{DeliversItsDue}
use Rattle.sdh_laws.specs.Carrying.Windows.{Layout, layout_of, positions_of, slots_of, HasCircuits, span_requests_of}
use Rattle.sdh_laws.specs.Converging.Steady.{went, brought_to, brought_in_slot}
use Rattle.sdh_laws.specs.Restoring.Flowing.{IsAisFrom}
use Rattle.sdh_laws.specs.Restoring.Laws.{NoControllerHeld}
use Rattle.sdh_laws.proofs.hearing.Changes.{whole_run}
use Rattle.sdh_laws.proofs.hearing.Steady.{needs, begin, begin_ids, may_signal, state_then}
use Rattle.sdh_laws.proofs.carrying.Owed.{drops_so}
use Rattle.sdh_laws.proofs.carrying.Ways.{layout_run}
use Rattle.sdh_laws.proofs.converging.Spreading.{inside_of, two_halves, working_goes}
use Rattle.sdh_laws.proofs.restoring.Flowing.{silent_on}

module _ (w : World) (whole : IsWhole w) (form : HasCircuits (layout_of w)) (f : ℕ) (free : (k : ℕ) → f ≤ k → NoControllerHeld (run k w))
    (index : ℕ) (c : Provisioned) (get : slice_get w.ring.circuits.circuits index ≡ Some c)
    (parted : is_joined (length w.ring.ids) (is_applied (span_requests_of (run (f + 3) w))) (arc_of (length w.ring.ids) c) ≡ false) where
  abbrev n : ℕ
  n = length w.ring.ids

  abbrev cs : List Provisioned
  cs = w.ring.circuits.circuits

  abbrev m : ℕ
  m = c.slot.0

  ring : AreOnRing n cs
  ring = on-ring n (slots_of (layout_of w)) cs form

  slot : IsInSlots (slots_of (layout_of w)) c
  slot =
      subst (IsInSlots (slots_of (layout_of w))) (get_or_from_slice_get cs index c c get)
      (form.in_slots index c (slice_get_within cs index c get))

  -- the signalling from the round on after which what the nodes need stays
  abbrev signalling : Run
  signalling = run_of (needs w whole f free) (begin w whole f free) (may_signal w whole f free)

  -- the states before a round that begins f + 2 + t rounds later
  abbrev states : ℕ → ℕ → NodeState
  states t p = (node_at (run (suc (f + 2 + t)) w).ring.nodes p).state

  abbrev Cut : Side → ℕ → Type 0
  Cut d k =
      AreOnRing k cs → is_joined k (is_applied (span_requests_of (run (f + 3) w))) (arc_of k c) ≡ false
      → IsCutOff k cs c d (λ t p. state_after (at_round signalling t p))

  by_signals : (d : Side) → Cut d (length signalling.ids)
  by_signals d on other =
      port_is_cut_off signalling (is_run (needs w whole f free) (begin w whole f free) (may_signal w whole f free)) cs on index c get
      (ap (λ rs. is_joined (length signalling.ids) (is_applied rs) (arc_of (length signalling.ids) c))
      (same_requests (needs w whole f free) (begin w whole f free) (may_signal w whole f free)) ∙ other) d

  module _ (d : Side) where
    cut_signals : IsCutOff n cs c d (λ t p. state_after (at_round signalling t p))
    cut_signals = subst (Cut d) (ap length (begin_ids w whole f free)) (by_signals d) ring parted

    seen : Seen n cs index c d (near_at n c d) (near_end d) (other_end (near_end d))
    seen = seen-on n cs ring index c get d

    some : 0 < n
    some = let s = seen.short in omega arith

    abbrev y : ℕ → ℕ
    y i = going n d (near_at n c d) i

    inside : (i : ℕ) → y i < n
    inside i = going-inside n some d (near_at n c d) i

    there : (i : ℕ) → y i < length w.ring.nodes
    there i = inside_of w whole (y i) (inside i)

    cut : IsCutOff n cs c d states
    cut = record {
      last = cut_signals.last;
      inside = cut_signals.inside;
      silent = λ t late. ap (λ st. stands_in n cs (y (suc cut_signals.last)) st (opposite d) m)
          (state_then w whole f free t (y (suc cut_signals.last)) (there (suc cut_signals.last))) ∙ cut_signals.silent t late;
      opens = λ k t few late. ap (λ st. is_open st (opposite d))
          (state_then w whole f free t (y (suc cut_signals.last + suc k)) (there (suc cut_signals.last + suc k))) ∙ cut_signals.opens k t few late;
    }

    abbrev first : ℕ
    first = suc cut.last

    abbrev behind : Side
    behind = opposite d

    -- the state of a node after the round that begins with run j
    abbrev st : ℕ → ℕ → NodeState
    st j i = (node_at (run (suc j) w).ring.nodes (y i)).state

    state_at : (j i : ℕ) → f + 2 ≤ j → st j i ≡ states (j - (f + 2)) (y i)
    state_at j i late = ap (λ k. (node_at (run k w).ring.nodes (y i)).state) {x = suc j} {y = suc (f + 2 + (j - (f + 2)))} (omega arith)

    -- what a node takes from the side behind
    abbrev Silent : ℕ → ℕ → Type 0
    Silent i t = IsAisFrom (λ j. brought_in_slot w (y i) m (stands_in n cs (y i) (st j i) behind m) j) t

    -- what the node behind sends on over the next span
    sends_ais : (k t : ℕ) → first + suc k ≤ arc_length n c → Silent (first + k) t → IsAisFrom (went w (y (first + k)) d m) t
    sends_ais k t few silent_then j late =
        let i = first + k in
        let on = leaves-on n cs (y i) (st j i) index c d m (seen.on_arc i (omega arith)) (seen.passes_by i (omega arith) (omega arith)) in
        ap (λ x. x.action) (working_goes w whole (y i) m j d (st j i) (inside i) slot.small refl ∙ ap (λ o. brought_in_slot w (y i) m o j) on)
        ∙ silent_then j late

    comes_ais : (k t : ℕ) → first + suc k ≤ arc_length n c → Silent (first + k) t → IsAisFrom (brought_to w (y (first + suc k)) behind m) (t + 3)
    comes_ais k t few silent_then =
        let p = y (first + suc k) in
        let from : neighbour n p behind ≡ y (first + k) =
        ap (λ x. neighbour n x behind) (ap y {x = first + suc k} {y = suc (first + k)} (omega arith))
        ∙ going-back n some d (near_at n c d) (first + k) in
        let low = slot.from_1 in
        let high = slot.small in
        let back : m - 1 + 1 ≡ m = omega arith in
        let sent = sends_ais k t few silent_then in
        subst (λ a. IsAisFrom (brought_to w p behind a) (t + 3)) back
        (silent_on w whole p behind (m - 1) (there (first + suc k)) (omega (arith, low, high, two_halves w.ring.settings.rate)) t
        (subst (λ a. IsAisFrom (went w (neighbour n p behind) (opposite behind) a) t) (sym back)
        (subst (λ q. IsAisFrom (went w q (opposite behind) m) t) (sym from)
        (subst (λ e. IsAisFrom (went w (y (first + k)) e m) t) (sym (opposite_twice d)) sent))))

    -- AIS comes to each node of the arc from there on, three rounds a span
    silent_from : (k : ℕ) → first + k ≤ arc_length n c → Silent (first + k) (f + 2 * n + 5 + 3 * k)
    silent_from zero few j late =
        let i = first + zero in
        let one : i ≡ first = omega arith in
        ap (λ o. (brought_in_slot w (y i) m o j).action)
        (ap (λ s. stands_in n cs (y i) s behind m) (state_at j i (omega arith))
        ∙ ap (λ x. stands_in n cs (y x) (states (j - (f + 2)) (y x)) behind m) one ∙ cut.silent (j - (f + 2)) (omega arith))
    silent_from (suc k) few j late =
        let i = first + suc k in
        let long = seen.short in
        let open_then = ap (λ s. is_open s behind) (state_at j i (omega arith)) ∙ cut.opens k (j - (f + 2)) few (omega arith) in
        ap (λ o. (brought_in_slot w (y i) m o j).action) (open-stands n cs (y i) (st j i) behind m open_then)
        ∙ comes_ais k (f + 2 * n + 5 + 3 * k) few (silent_from k (omega arith)) j (omega arith)

    abbrev e : End
    e = other_end (near_end d)

    -- the port at the other end delivers AIS
    delivers_ais : (j : ℕ) → f + 5 * n ≤ j + 1 → outlet_at (run (suc j) w).ring (port_id index e) ≡ silent
    unfolding any_run.run delivered_from
    delivers_ais j late =
        let k = arc_length n c - first in
        let a = cut.inside in
        let b = seen.short in
        let end_is : first + k ≡ arc_length n c = omega arith in
        let is = silent_from k (omega arith) j (omega arith) in
        let place : y (first + k) ≡ port_at c e = ap y end_is ∙ sym seen.distant_at in
        let form_j : HasCircuits (layout_of (run j w)) = subst HasCircuits (sym (layout_run w j)) form in
        let get_j : slice_get (run j w).ring.circuits.circuits index ≡ Some c = ap (λ (l : Layout). slice_get l.circuits index) (layout_run w j) ∙ get in
        let there_e : port_at c e < length (run j w).ring.ids =
        omega (arith, ap positions_of (layout_run w j), subst (λ q. q < n) place (inside (first + k))) in
        let came : (brought_in_slot w (port_at c e) m (stands_in n cs (port_at c e) (node_at (run (suc j) w).ring.nodes (port_at c e)).state behind m) j).action ≡ action.Ais =
        subst (λ q. (brought_in_slot w q m (stands_in n cs q (node_at (run (suc j) w).ring.nodes q).state behind m) j).action ≡ action.Ais) place is in
        let out = drops_so (run j w) (whole_run w j whole) index c e get_j there_e in
        out
        ∙ ap (λ (l : Layout). delivered_from (brought_in_slot w (port_at c e) m (stands_in (positions_of l) l.circuits (port_at c e)
        (node_at (run (suc j) w).ring.nodes (port_at c e)).state (inward e) m) j)) (layout_run w j)
        ∙ ap (λ s. delivered_from (brought_in_slot w (port_at c e) m (stands_in n cs (port_at c e)
        (node_at (run (suc j) w).ring.nodes (port_at c e)).state s m) j)) seen.distant_faces
        ∙ ap (λ a. delivered_by a (brought_in_slot w (port_at c e) m (stands_in n cs (port_at c e)
        (node_at (run (suc j) w).ring.nodes (port_at c e)).state behind m) j)) came

  by_end : (e : End) (j : ℕ) → f + 5 * n ≤ j + 1 → outlet_at (run (suc j) w).ring (port_id index e) ≡ silent
  by_end A j late = delivers_ais West j late
  by_end B j late = delivers_ais East j late

  -- so each of its ports delivers what it is owed, which is AIS
  pub cut_off_owed : (k : ℕ) (e : End) → f + 5 * n ≤ k → DeliversItsDue (clocks_from w) (run k w) (span_requests_of (run (f + 3) w)) c index e
  unfolding due
  cut_off_owed k e late =
      let two = whole.placed.ids.enough in
      let rs = span_requests_of (run (f + 3) w) in
      let j = k - 1 in
      let now : suc j ≡ k = omega arith in
      subst (λ i. DeliversItsDue (clocks_from w) (run i w) rs c index e) now
      (by_end e j (omega arith)
      ∙ sym (ap (λ (l : Layout). if is_joined (positions_of l) (is_applied rs) (arc_of (positions_of l) c)
      then plainly (customer_at c (other_end e)) (clocks_from w (port_id index (other_end e)) ((run (suc j) w).ring.rounds - 1
      - hops (positions_of l) (is_applied rs) (arc_of (positions_of l) c))) else silent) (layout_run w (suc j))
      ∙ ap (λ b. if b then plainly (customer_at c (other_end e)) (clocks_from w (port_id index (other_end e)) ((run (suc j) w).ring.rounds - 1
      - hops n (is_applied rs) (arc_of n c))) else silent) parted))
