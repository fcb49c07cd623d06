-- Whom a change of a ring at rest doesn't touch. A circuit on whose arc no side is switched carries what it would carry
-- if nothing had happened: what is under way over the arc goes on by itself, in the ring that stays at rest and in the
-- one that changes.
use Rattle.std.proofs.Common.{◌≡◌, ◌≢◌, ℕ, zero, suc, ◌+◌, ◌-◌, ◌*◌, ◌<◌, ◌≤◌, Bool, true, false, List, [], length, get_or, Option, None, Some, refl, ap}
use Rattle.std.proofs.Common.{ap₂, sym, ◌∙◌, subst, arith, inl, inr}
use Rattle.std.specs.Prelude.{slice_get, if◌then◌else◌, ◌==◌}
use Rattle.std.specs.Option.{option_map_or}
use Rattle.std.proofs.lemmas.Bool.{cases_Bool, and_left, ne_eqb}
use Rattle.std.proofs.lemmas.Option.{get_or_from_slice_get, slice_get_within}
use Rattle.sdh_ringmap.specs.Arcs.{Arc, arc_span, holds_span, is_clear, is_joined}
use Rattle.sdh_ringmap.specs.Fibres.{fibre, is_cut}
use Rattle.sdh_ringmap.specs.Places.{eastwards, opposite, span_at}
use Rattle.sdh_ringmap.specs.Rates.{n_of}
use Rattle.sdh_ringmap.specs.Steps.{going}
use Rattle.sdh_ringmap.specs.declared.Pos.{Pos}
use Rattle.sdh_ringmap.specs.declared.Side.{Side}
use Rattle.sdh_ringmap.specs.declared.Side.TheVariants.{West, East}
use Rattle.sdh_ringmap.proofs.Around.{arc_end, held_inside, held_near}
use Rattle.sdh_ringmap.proofs.Clear.{none_of-at, none_of-never}
use Rattle.sdh_frame.specs.Aus.{au_of}
use Rattle.sdh_parity.specs.Scrambling.{scrambled}
use Rattle.sdh_circuits.specs.Provisioned.{Provisioned, arc_of, same_port, same_end}
use Rattle.sdh_circuits.specs.Provisioning.{IsInSlots}
use Rattle.sdh_circuits.specs.Ends.{other_end, port_id}
use Rattle.sdh_circuits.specs.declared.End.{End}
use Rattle.sdh_circuits.specs.declared.End.TheVariants.{A, B}
use Rattle.sdh_circuits.specs.declared.PortId.{PortId}
use Rattle.sdh_payload.specs.Clock.{Clock, with_waiting}
use Rattle.sdh_payload.specs.Outlet.{Outlet}
use Rattle.sdh_plant.specs.Arrivals.{carried_on}
use Rattle.sdh_pointer.specs.Reading.{start}
use Rattle.sdh_restoration.specs.Applied.{is_applied}
use Rattle.sdh_restoration.specs.Changes.{Change, Fibre, Order, Hold, Slip, Now, Stretch, rounds_in}
use Rattle.sdh_restoration.specs.Due.{due, nothing_applied}
use Rattle.sdh_restoration.specs.Routes.{hops}
use Rattle.sdh_signal.specs.Law.{is_open}
use Rattle.sdh_signal.specs.Laws.{StillRingsAreSettled}
use Rattle.sdh_signal.specs.Settled.{settled, settled_by}
use Rattle.sdh_signal.specs.Walks.{port_at}
use Rattle.sdh_signal.proofs.OnArcs.{near_at, near_end}
use Rattle.sdh_signal.proofs.Standing.{settled_is, far_n}
use Rattle.sdh_signal.proofs.Views.{AreOnRing, arc_length, on-ring}
use Rattle.sdh_terminal.specs.Outlets.{delivered_from}
use Rattle.sdh_node.specs.Crossing.{is_failed}
use Rattle.sdh_node.specs.Node.{Node, receiving_on, sending_on, at_receiving, held_for, slips_at}
use Rattle.sdh_node.specs.Receiving.{Receiving, commanded_by}
use Rattle.sdh_node.specs.Rings.Changes.{changed}
use Rattle.sdh_node.specs.Rings.Clocks.{clock_after, clock_at}
use Rattle.sdh_node.specs.Rings.Held.{node_at, outlet_at, place_of_port}
use Rattle.sdh_node.specs.Rings.Laws.{IsChangeOf, MayHappen}
use Rattle.sdh_node.specs.Rings.Rounds.{World, round}
use Rattle.sdh_node.specs.Rings.Runs.{run}
use Rattle.sdh_node.specs.Rings.Sides.{condition_to, world_in}
use Rattle.sdh_node.proofs.RingLaws.Clocks.{clocks_go_on}
use Rattle.sdh_rounds.specs.Rounds as any_round
use Rattle.sdh_rounds.specs.Runs as any_run
use Rattle.sdh_laws.specs.Hearing.Laws.{IsWhole}
use Rattle.sdh_laws.specs.Carrying.Laws.{due_by_clocks, DeliversItsDue}
use Rattle.sdh_laws.specs.Carrying.Windows.{Layout, layout_of, slots_of, positions_of, HasCircuits, span_requests_of, IsQuiet}
use Rattle.sdh_laws.specs.Resting.Rest.{IsAtRest}
use Rattle.sdh_laws.specs.Strangers.Laws.{AllMay}
use Rattle.sdh_laws.specs.Strangers.Untouched.{NoneSwitchesOnArc, SlipsAnother, UnswitchedPortsDeliver}
use Rattle.sdh_laws.proofs.hearing.Changes.{whole_changed, whole_run, each_at_place, readings_commanded, sending_commanded, held_leaves, slips_leave, with_node}
use Rattle.sdh_laws.proofs.hearing.Nodes.{count}
use Rattle.sdh_laws.proofs.hearing.Rounds.{clear_where_it_works}
use Rattle.sdh_laws.proofs.hearing.Signalling.{calm_rounds_are_still, requests_stay}
use Rattle.sdh_laws.proofs.hearing.Staying.{left_run}
use Rattle.sdh_laws.proofs.carrying.Owed.{port_is_there}
use Rattle.sdh_laws.proofs.carrying.Ways.{layout_run}
use Rattle.sdh_laws.proofs.converging.Runs.{condition_run, inside_run}
use Rattle.sdh_laws.proofs.resting.Resting.{quiet}
use Rattle.sdh_laws.proofs.strangers.Keeping.{kept_in, layout_in}
use Rattle.sdh_laws.proofs.strangers.Passage.{UnderWay, HasPart, Carries, first_port, comes, next, carries_on, delivers}

-- ---- settled states, and arcs none of whose spans is applied

by_spans : (d : Side) (a b serves : Bool) (w e : Option Pos) → (d ≡ West → a ≡ false) → (d ≡ East → b ≡ false)
    → is_open (settled_by a b serves w e) d ≡ true
by_spans West true b serves w e x y = absurd (let z = x refl in cc)
by_spans West false true serves w e x y = refl
by_spans West false false true w e x y = refl
by_spans West false false false w e x y = refl
by_spans East a true serves w e x y = absurd (let z = y refl in cc)
by_spans East true false serves w e x y = refl
by_spans East false false true w e x y = refl
by_spans East false false false w e x y = refl

-- a node in its settled state doesn't switch a side whose span isn't applied
open_settled : (rs : List ℕ) (n p : ℕ) (d : Side) → length rs ≡ n → is_applied rs (span_at n p d) ≡ false → is_open (settled rs p) d ≡ true
open_settled rs n p d size free =
    ap (λ st. is_open st d) (settled_is rs n p size)
    ∙ by_spans d (is_applied rs (span_at n p West)) (is_applied rs (span_at n p East)) _ (far_n rs n p West) (far_n rs n p East)
    (λ e. subst (λ x. is_applied rs (span_at n p x) ≡ false) e free) (λ e. subst (λ x. is_applied rs (span_at n p x) ≡ false) e free)

-- a span that a clear arc holds isn't applied
free_on_arc : (n : ℕ) (applied : ℕ → Bool) (arc : Arc) (s : ℕ) → arc.start < n → is_clear n applied arc ≡ true → holds_span n arc s ≡ true
    → applied s ≡ false
unfolding is_clear
free_on_arc n applied arc s inside clear held =
    let there = arc_end n arc.start s inside (held_inside n s arc held) in
    let near = held_near n s arc held in
    ap applied (sym there) ∙ none_of-at (λ i. applied (arc_span n arc i)) 0 arc.spans clear (eastwards n arc.start s) (omega arith) (omega arith)

-- what a port of a circuit is owed over a clear arc
due_clear : (n : ℕ) (applied : ℕ → Bool) (c : Provisioned) (sends : ℕ → Outlet) (t : ℕ) → is_clear n applied (arc_of n c) ≡ true
    → due n applied c sends t ≡ sends (t - (arc_of n c).spans)
unfolding due is_joined hops
due_clear n applied c sends t clear = rw clear

none_clear : (n : ℕ) (arc : Arc) → is_clear n nothing_applied arc ≡ true
unfolding is_clear
none_clear n arc = none_of-never (λ i. nothing_applied (arc_span n arc i)) 0 arc.spans (λ j low high. refl)

other_port : (index : ℕ) (e : End) (q : PortId) → q.circuit ≢ index → same_port (port_id index e) q ≡ false
other_port index e q other = and_left (index == q.circuit) (same_end e q.end) (ne_eqb index q.circuit (λ z. other (sym z)))

-- ---- changes leave what is under way

module _ (i : ℕ) (c : Provisioned) (d : Side) where
  part_left : (f : Node → Node) → ((e : Side) (y : Node) → (receiving_on e (f y)).readings ≡ (receiving_on e y).readings)
      → ((e : Side) (y : Node) → sending_on e (f y) ≡ sending_on e y) → (n : ℕ) (x : UnderWay) (q : ℕ) (y : Node) → HasPart i c d n x q y
      → HasPart i c d n x q (f y)
  part_left f readings sendings n x q y h = record {
    sends = λ k few is. ap (λ s. get_or s.generators (c.slot.0 - 1) None) (sendings d y) ∙ h.sends k few is;
    reads = λ k few is. ap (λ l. get_or l (c.slot.0 - 1) start) (readings (opposite d) y) ∙ h.reads k few is;
  }

  with_change : (f : Node → Node) → ((e : Side) (y : Node) → (receiving_on e (f y)).readings ≡ (receiving_on e y).readings)
      → ((e : Side) (y : Node) → sending_on e (f y) ≡ sending_on e y) → (p : ℕ) (w : World) (x : UnderWay) → IsWhole (with_node p f w)
      → clock_at (with_node p f w).ring (first_port i c d) ≡ clock_at w.ring (first_port i c d) → Carries i c d w x
      → Carries i c d (with_node p f w) x
  with_change f readings sendings p w x whole kept u = record {
    whole = whole;
    ran = u.ran;
    get = u.get;
    ring = u.ring;
    slot = u.slot;
    nodes = each_at_place (HasPart i c d (length w.ring.ids) x) f (λ q y h. part_left f readings sendings (length w.ring.ids) x q y h) p w.ring.nodes u.nodes;
    frames = u.frames;
    clock = kept ∙ u.clock;
  }

  end_inside : (w : World) (x : UnderWay) → Carries i c d w x → (e : End) → port_at c e < length w.ring.ids
  end_inside w x u A = (u.ring.inside i c u.get).0
  end_inside w x u B = (u.ring.inside i c u.get).1

  clock_kept : (w : World) (x : UnderWay) (y : Change) → Carries i c d w x → SlipsAnother i y
      → clock_at (changed y w).ring (first_port i c d) ≡ clock_at w.ring (first_port i c d)
  clock_kept w x y u another =
      (clocks_go_on.change y w (first_port i c d)
      (port_is_there w u.whole i c (near_end d) u.get (end_inside w x u (near_end d)))).1 ∙ by y another
    where
      by : (y : Change) → SlipsAnother i y → clock_after (first_port i c d) y (clock_at w.ring (first_port i c d)) ≡ clock_at w.ring (first_port i c d)
      by (Fibre p e condition) another = refl
      by (Order p e command) another = refl
      by (Hold p turns) another = refl
      by (Slip q turn more) another = ap (λ b. if b then with_waiting turn more (clock_at w.ring (first_port i c d)) else clock_at w.ring (first_port i c d)) (other_port i (near_end d) q another)
      by (Now t) another = refl

  carries_changed : (y : Change) (w : World) (x : UnderWay) → IsChangeOf w y → SlipsAnother i y → Carries i c d w x → Carries i c d (changed y w) x
  unfolding changed clock_at place_of_port
  carries_changed (Fibre p e condition) w x may another u = record {
    whole = whole_changed (Fibre p e condition) w may u.whole;
    ran = u.ran;
    get = u.get;
    ring = u.ring;
    slot = u.slot;
    nodes = u.nodes;
    frames = u.frames;
    clock = u.clock;
  }
  carries_changed (Order p e y) w x may another u =
      with_change (at_receiving e (commanded_by y)) (λ g n. readings_commanded e g y n) (λ g n. sending_commanded e g y n) p w x
      (whole_changed (Order p e y) w may u.whole) (clock_kept w x (Order p e y) u another) u
  carries_changed (Hold p turns) w x may another u =
      with_change (held_for turns) (λ g y. ap (λ (r : Receiving). r.readings) ((held_leaves turns).receiving g y))
      (λ g y. (held_leaves turns).sending g y) p w x (whole_changed (Hold p turns) w may u.whole) (clock_kept w x (Hold p turns) u another) u
  carries_changed (Slip id turn more) w x may another u =
      with_change (slips_at id turn more) (λ g y. ap (λ (r : Receiving). r.readings) ((slips_leave id turn more).receiving g y))
      (λ g y. (slips_leave id turn more).sending g y) (place_of_port w.ring id) w x
      (whole_changed (Slip id turn more) w may u.whole) (clock_kept w x (Slip id turn more) u another) u
  carries_changed (Now t) w x may another u = record {
    whole = whole_changed (Now t) w may u.whole;
    ran = u.ran;
    get = u.get;
    ring = u.ring;
    slot = u.slot;
    nodes = u.nodes;
    frames = u.frames;
    clock = u.clock;
  }

  -- what is under way some rounds later
  later : UnderWay → ℕ → UnderWay
  later x zero = x
  later x (suc k) = next i c d (later x k)

  -- what is under way in a world
  now : World → UnderWay
  now w =
      (let n = length w.ring.ids in let rate = n_of w.ring.settings.rate in let at = λ (k : ℕ). going n d (near_at n c d) k in record {
        generators = λ k. get_or (sending_on d (node_at w.ring.nodes (at k))).generators (c.slot.0 - 1) None;
        readings = λ k. get_or (receiving_on (opposite d) (node_at w.ring.nodes (at (suc k)))).readings (c.slot.0 - 1) start;
        aus = λ k. au_of rate c.slot.0 (scrambled (9 * rate) (option_map_or (λ l. l) (carried_on w.fibres (fibre (at k) d)) []));
        clock = clock_at w.ring (first_port i c d);
      })

  carries_now : (w : World) → IsWhole w → 0 < w.ring.rounds → HasCircuits (layout_of w) → slice_get w.ring.circuits.circuits i ≡ Some c
      → Carries i c d w (now w)
  unfolding now
  carries_now w whole ran form get = record {
    whole = whole;
    ran = ran;
    get = get;
    ring = on-ring (length w.ring.ids) (slots_of (layout_of w)) w.ring.circuits.circuits form;
    slot =
        subst (IsInSlots (slots_of (layout_of w))) (get_or_from_slice_get w.ring.circuits.circuits i c c get)
        (form.in_slots i c (slice_get_within w.ring.circuits.circuits i c get));
    nodes = λ p h. record {
      sends = λ k few is. ap (λ q. get_or (sending_on d (node_at w.ring.nodes q)).generators (c.slot.0 - 1) None) is;
      reads = λ k few is. ap (λ q. get_or (receiving_on (opposite d) (node_at w.ring.nodes q)).readings (c.slot.0 - 1) start) is;
    };
    frames = λ k line few is.
        ap (λ o. au_of (n_of w.ring.settings.rate) c.slot.0 (scrambled (9 * n_of w.ring.settings.rate) (option_map_or (λ l. l) o []))) (sym is);
    clock = refl;
  }

  -- ---- the ring that stays at rest, and the one that changes

  module _ (w : World) (x : UnderWay) (u : Carries i c d w x) where
    runs : ((k : ℕ) → NoneSwitchesOnArc (run (suc k) w) c) → (t : ℕ) → Carries i c d (run t w) (later x t)
    unfolding any_run.run later
    runs free zero = u
    runs free (suc t) = carries_on i c d (run t w) (later x t) (runs free t) (free t)

    goes_on : (ss : List Stretch) → HasCircuits (layout_of w) → MayHappen w ss → AllMay (λ v y. SlipsAnother i y) w ss
        → ((t : ℕ) → t < rounds_in ss → NoneSwitchesOnArc (round (world_in ss w t)) c) → (t : ℕ) → t ≤ rounds_in ss
        → Carries i c d (world_in ss w t) (later x t)
    unfolding later
    goes_on ss form may another free t few =
        subst (λ k. Carries i c d (world_in ss w t) (later x k)) {x = 0 + t} {y = t} (omega arith)
        (kept_in (λ v. NoneSwitchesOnArc (round v) c) (λ v y. SlipsAnother i y) (λ j v. Carries i c d v (later x j))
        (λ j y v may other h. carries_changed y v (later x j) may other h)
        (λ j v form h stays. subst (λ k. Carries i c d (round v) (later x k)) {x = suc j} {y = j + 1} (omega arith)
        (carries_on i c d v (later x j) h stays)) ss 0 w t form u may another free few)

-- ---- at rest

module _ (law : StillRingsAreSettled) (w : World) (clocks : PortId → ℕ → Clock) (rests : IsAtRest clocks w) (form : HasCircuits (layout_of w))
    (index : ℕ) (c : Provisioned) (get : slice_get w.ring.circuits.circuits index ≡ Some c)
    (clear : is_clear (length w.ring.ids) (is_applied (span_requests_of (round w))) (arc_of (length w.ring.ids) c) ≡ true) where
  abbrev n : ℕ
  n = length w.ring.ids

  ring : AreOnRing n w.ring.circuits.circuits
  ring = on-ring n (slots_of (layout_of w)) w.ring.circuits.circuits form

  requests_first : (k : ℕ) → span_requests_of (run (suc k) w) ≡ span_requests_of (round w)
  unfolding any_run.run
  requests_first k =
      ap (λ j. span_requests_of (run j w)) {x = suc k} {y = 1 + k} (omega arith)
      ∙ requests_stay w 1 k rests.whole (λ j low high. rests.calm j (omega arith))

  clear_in : (k : ℕ) → is_clear n (is_applied (span_requests_of (run (suc k) w))) (arc_of n c) ≡ true
  clear_in k = ap (λ rs. is_clear n (is_applied rs) (arc_of n c)) (requests_first k) ∙ clear

  quiet_in : (k : ℕ) → IsQuiet n (span_requests_of (run (suc k) w)) w (suc k) (suc k)
  quiet_in k = quiet law w rests.whole form 0 (λ j late. rests.calm j (omega arith)) (suc k) (suc k) (omega arith) (omega arith) (omega arith)

  -- where nothing but rounds happens no side is switched on the arc
  pub none_switches : (k : ℕ) → NoneSwitchesOnArc (run (suc k) w) c
  unfolding any_run.run
  none_switches k =
      subst (λ m. (p : ℕ) (e : Side) → p < m → holds_span m (arc_of m c) (span_at m p e) ≡ true
      → (is_open (node_at (run (suc k) w).ring.nodes p).state e ≡ true) × (is_cut (condition_to (run (suc k) w) p e) ≡ false))
      (sym (ap positions_of (layout_run w (suc k)))) (λ p e low held. (open_side p e low (free p e held), kept_side p e low (free p e held)))
    where
      free : (p : ℕ) (e : Side) → holds_span n (arc_of n c) (span_at n p e) ≡ true → is_applied (span_requests_of (run (suc k) w)) (span_at n p e) ≡ false
      free p e held =
          free_on_arc n (is_applied (span_requests_of (run (suc k) w))) (arc_of n c) (span_at n p e) (ring.inside index c get).0 (clear_in k) held

      open_side : (p : ℕ) (e : Side) → p < n → is_applied (span_requests_of (run (suc k) w)) (span_at n p e) ≡ false
          → is_open (node_at (run (suc k) w).ring.nodes p).state e ≡ true
      open_side p e low none =
          ap (λ st. is_open st e) ((quiet_in k).settled_are (suc k) (omega arith) (omega arith) p low)
          ∙ open_settled (span_requests_of (run (suc k) w)) n p e (quiet_in k).spans none

      works : (p : ℕ) (e : Side) → p < n → is_applied (span_requests_of (run (suc k) w)) (span_at n p e) ≡ false
          → is_failed (receiving_on e (node_at (run (suc k) w).ring.nodes p)).local.defect ≡ false
      works p e low none = elim (cases_Bool (is_failed (receiving_on e (node_at (run (suc k) w).ring.nodes p)).local.defect)) [
        | inl fails ↦ absurd (let a = (quiet_in k).failing (suc k) (omega arith) (omega arith) p e low fails in cc)
        | inr fine ↦ fine
      ]

      kept_side : (p : ℕ) (e : Side) → p < n → is_applied (span_requests_of (run (suc k) w)) (span_at n p e) ≡ false
          → is_cut (condition_to (run (suc k) w) p e) ≡ false
      kept_side p e low none =
          ap is_cut (condition_run w (suc k) p e ∙ sym (condition_run w k p e))
          ∙ clear_where_it_works (run k w) (whole_run w k rests.whole) p e (ran_at k)
          (inside_run w k p (omega (arith, count w rests.whole.placed))) (works p e low none)
        where
          ran : 0 < w.ring.rounds
          ran = (calm_rounds_are_still w rests.whole (rests.calm 1 (omega arith))).later

          ran_at : (k : ℕ) → 0 < (run k w).ring.rounds
          ran_at k = omega (arith, (left_run k w).rounds, ran)

  module _ (ss : List Stretch) (may : MayHappen w ss) (another : AllMay (λ v y. SlipsAnother index y) w ss)
      (free : (t : ℕ) → t < rounds_in ss → NoneSwitchesOnArc (round (world_in ss w t)) c) (t : ℕ) (few : t < rounds_in ss) where
    abbrev v : World
    v = world_in ss w t

    module _ (d : Side) where
      abbrev e : End
      e = other_end (near_end d)

      begins : Carries index c d w (now index c d w)
      unfolding any_round.round any_run.run
      begins = carries_now index c d w rests.whole (calm_rounds_are_still w rests.whole (rests.calm 1 (omega arith))).later form get

      abbrev x : UnderWay
      x = later index c d (now index c d w) t

      -- the port delivers what it would have delivered if nothing had happened
      as_if_nothing : outlet_at (round v).ring (port_id index e) ≡ outlet_at (run (suc t) w).ring (port_id index e)
      unfolding any_run.run
      as_if_nothing =
          let here = goes_on index c d w (now index c d w) begins ss form may another free t (omega arith) in
          let there = runs index c d w (now index c d w) begins none_switches t in
          delivers index c d v x here (free t few)
          ∙ ap (λ m. delivered_from (comes index c d x (arc_length m c)))
          (ap positions_of (layout_in ss w t) ∙ sym (ap positions_of (layout_run w t)))
          ∙ sym (delivers index c d (run t w) x there (none_switches t))

    by_end : (e : End) → outlet_at (round v).ring (port_id index e) ≡ outlet_at (run (suc t) w).ring (port_id index e)
    by_end A = as_if_nothing West
    by_end B = as_if_nothing East

    pub delivers_straight : (e : End) → outlet_at (round v).ring (port_id index e)
        ≡ due_by_clocks n nothing_applied c e (clocks (port_id index (other_end e))) (w.ring.rounds + t)
    delivers_straight e =
        let there : slice_get (run (suc t) w).ring.circuits.circuits index ≡ Some c =
        ap (λ (l : Layout). slice_get l.circuits index) (layout_run w (suc t)) ∙ get in
        let rs = span_requests_of (run (suc t) w) in
        let number : (run (suc t) w).ring.rounds - 1 ≡ w.ring.rounds + t = (let r = (left_run (suc t) w).rounds in omega arith) in
        let is : DeliversItsDue clocks (run (suc t) w) rs c index e = rests.due (suc t) (omega arith) index c there e in
        by_end e ∙ is ∙ ap₂ (λ m r. due_by_clocks m (is_applied rs) c e (clocks (port_id index (other_end e))) r)
        (ap positions_of (layout_run w (suc t))) number
        ∙ due_clear n (is_applied rs) c _ (w.ring.rounds + t) (clear_in t) ∙ sym (due_clear n nothing_applied c _ (w.ring.rounds + t) (none_clear n (arc_of n c)))

pub unswitched_ports_deliver : StillRingsAreSettled → UnswitchedPortsDeliver
unswitched_ports_deliver law w clocks rests form ss may index c get another clear free t few e =
    delivers_straight law w clocks rests form index c get clear ss may another free t few e
