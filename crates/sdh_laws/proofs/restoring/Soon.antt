-- A ring to which nothing happens but rounds is restored soon.
use Rattle.std.proofs.Common.{◌≡◌, ℕ, zero, suc, ◌+◌, ◌-◌, ◌*◌, ◌<◌, ◌≤◌, true, false, Some, List, length, ap, sym, ◌∙◌, subst}
use Rattle.std.proofs.Common.{arith, inl, inr}
use Rattle.std.specs.Prelude.{slice_get}
use Rattle.std.proofs.lemmas.Bool.{cases_Bool, cases_lt}
use Rattle.sdh_ringmap.specs.Places.{span_at}
use Rattle.sdh_ringmap.specs.declared.Side.{Side}
use Rattle.sdh_circuits.specs.Provisioned.{Provisioned, arc_of}
use Rattle.sdh_circuits.specs.declared.End.{End}
use Rattle.sdh_payload.specs.Clock.{Clock, ticks}
use Rattle.sdh_restoration.specs.Applied.{is_applied}
use Rattle.sdh_signal.specs.Settled.{settled_states}
use Rattle.sdh_circuits.specs.Ends.{other_end, port_id}
use Rattle.sdh_laws.specs.Carrying.Laws.{due_by_clocks}
use Rattle.sdh_restoration.specs.Routes.{hops}
use Rattle.sdh_ringmap.specs.Arcs.{is_joined}
use Rattle.sdh_signal.specs.Signals.{requests_in}
use Rattle.sdh_signal.specs.Laws.{RingsSettle}
use Rattle.sdh_node.specs.Crossing.{is_failed}
use Rattle.sdh_node.specs.Stations.{adm}
use Rattle.sdh_node.specs.Node.{receiving_on, is_held}
use Rattle.sdh_signal.proofs.Ways.{end_inside}
use Rattle.sdh_node.specs.Rings.Held.{node_at, outlet_at, AtEach}
use Rattle.sdh_rounds.proofs.Runs.{known_unsettles}
use Rattle.sdh_node.specs.Rings.Clocks.{clock_at, clocks_from}
use Rattle.sdh_node.specs.Rings.Rounds.{World, round}
use Rattle.sdh_node.specs.Rings.Runs.{run}
use Rattle.sdh_node.proofs.RingLaws.Clocks.{goes_run}
use Rattle.sdh_laws.specs.Hearing.Signalling.{signals_of}
use Rattle.sdh_laws.specs.Hearing.Laws.{IsWhole, NoneWait, StillFrom}
use Rattle.sdh_laws.proofs.hearing.Changes.{whole_run}
use Rattle.sdh_laws.proofs.hearing.Nodes.{count}
use Rattle.sdh_laws.proofs.hearing.Staying.{left_run}
use Rattle.sdh_laws.proofs.hearing.Steady.{still_from, free_at, free_stays, none_wait, none_waits_later}
use Rattle.sdh_laws.specs.Carrying.Windows.{Layout, layout_of, positions_of, slots_of, HasCircuits, span_requests_of, AreSettled, FailOnApplied}
use Rattle.sdh_laws.specs.Carrying.Laws.{DeliversItsDue, IsRestored}
use Rattle.sdh_laws.proofs.carrying.Applied.{failures_applied, length-requests_of}
use Rattle.sdh_laws.proofs.carrying.Owed.{port_is_there}
use Rattle.sdh_laws.proofs.carrying.Settles.{each_settled}
use Rattle.sdh_laws.proofs.hearing.Rounds.{clear_where_it_works}
use Rattle.sdh_laws.proofs.carrying.Ways.{layout_run}
use Rattle.sdh_laws.specs.Converging.Steady.{StaysSettled}
use Rattle.sdh_laws.proofs.converging.Runs.{run_more, nodes_run}
use Rattle.sdh_laws.specs.Restoring.Laws.{ArePortsOwedFrom, PortsAreOwedSoon, UnslippedPortsAreOwedSoon, RingsAreRestoredSoon}
use Rattle.sdh_laws.specs.Restoring.Laws.{FreeRingsAreRestoredSoon, UnslippedRingsAreRestoredSoon, UnsettledRingsAreRestored}
use Rattle.sdh_laws.proofs.restoring.CutOff.{cut_off_owed}
use Rattle.sdh_laws.proofs.restoring.Resting.{AreUncut, port_delivers, joined_delivers}
use Rattle.sdh_rounds.specs.Runs as any_run
use Rattle.sdh_rounds.proofs.Terms.{terms}

-- where no controller misses a turn from round f on, and no slip waits from round `base` on
module _ (law : RingsSettle) (w : World) (whole : IsWhole w) (form : HasCircuits (layout_of w)) (f base : ℕ)
    (free : (k : ℕ) → f ≤ k → AtEach (λ p n. is_held n ≡ false) (run k w).ring.nodes) (late : 4 * length w.ring.ids + f + 9 ≤ base)
    (slips : AtEach (λ p n. NoneWait n.ports) (run base w).ring.nodes) where
  open terms w use {n}

  abbrev pub rs : List ℕ
  rs = span_requests_of (run (f + 3) w)

  still : StillFrom w f
  still = still_from w whole f free law

  spans_are : length rs ≡ n
  spans_are = length-requests_of (run (f + 3) w) n (nodes_run w whole (f + 3))

  requests_at : (k : ℕ) → span_requests_of (run (f + 3 + k) w) ≡ rs
  requests_at zero = let e : f + 3 + zero ≡ f + 3 = omega arith in ap (λ j. span_requests_of (run j w)) e
  requests_at (suc k) = let e : f + 3 + suc k ≡ suc (f + 3 + k) =
      omega arith in ap (λ j. span_requests_of (run j w)) e ∙ ap requests_in (still.needs (f + 3 + k) (omega arith)) ∙ requests_at k

  pub requests_from : (k : ℕ) → f + 3 ≤ k → span_requests_of (run k w) ≡ rs
  requests_from k h = let e : k ≡ f + 3 + (k - (f + 3)) = omega arith in ap (λ j. span_requests_of (run j w)) e ∙ requests_at (k - (f + 3))

  pub states_from : (k : ℕ) → 4 * n + f + 10 ≤ k → (signals_of (run k w)).states ≡ settled_states rs
  states_from k h = still.states k h ∙ ap settled_states (requests_from k (omega arith))

  -- ---- the ring at rest

  abbrev pub u : World
  u = run base w

  pub whole_u : IsWhole u
  whole_u = whole_run w base whole

  pub ids_u : length u.ring.ids ≡ n
  ids_u = ap positions_of (layout_run w base)

  pub settled_u : (k : ℕ) → 1 ≤ k → AreSettled n rs (run k u)
  settled_u k some =
      subst (AreSettled n rs) (sym (run_more w base k)) (each_settled (run (k + base) w) n rs (nodes_run w whole (k + base)) spans_are
      (states_from (k + base) (omega (arith, late))))

  pub at_rest : StaysSettled u rs
  at_rest = record {
    spans = spans_are ∙ sym ids_u;
    unslipped = slips;
    settled_are = λ k some. subst (λ m. AreSettled m rs (run k u)) (sym ids_u) (settled_u k some);
  }

  fails : FailOnApplied (length u.ring.ids) rs (round u)
  unfolding any_run.run
  fails =
      subst (λ qs. FailOnApplied (length u.ring.ids) qs (round u)) (requests_from (suc base) (omega (arith, late)))
      (failures_applied u whole_u)

  works : (p : ℕ) (d : Side) → p < length u.ring.ids → is_applied rs (span_at (length u.ring.ids) p d) ≡ false
      → is_failed (receiving_on d (node_at (round u).ring.nodes p)).local.defect ≡ false
  works p d h clear = elim (cases_Bool (is_failed (receiving_on d (node_at (round u).ring.nodes p)).local.defect)) [
    | inl t ↦ absurd (let e = fails p d h t in cc)
    | inr x ↦ x
  ]

  pub uncut : AreUncut u rs
  uncut p d h clear =
      clear_where_it_works u whole_u p d (let r = (left_run base w).rounds in omega (arith, late))
      (omega (arith, h, count u whole_u.placed)) (works p d h clear)

  -- ---- its ports

  module _ (index : ℕ) (c : Provisioned) (get : slice_get w.ring.circuits.circuits index ≡ Some c) (e : End) where
    pub get_u : slice_get u.ring.circuits.circuits index ≡ Some c
    get_u = ap (λ (l : Layout). slice_get l.circuits index) (layout_run w base) ∙ get

    -- the clock at the other end, as it goes from w on
    pub tells : (i : ℕ) → clock_at (run i u).ring (port_id index (other_end e))
        ≡ clocks_from w (port_id index (other_end e)) (u.ring.rounds + i)
    tells i =
        let id = port_id index (other_end e) in
        let r : u.ring.rounds ≡ w.ring.rounds + base = (let a = (left_run base w).rounds in omega arith) in
        let number : i + base ≡ u.ring.rounds + i - w.ring.rounds = omega arith in
        ap (λ (v : World). clock_at v.ring id) (run_more w base i)
        ∙ (goes_run id (i + base) w (port_is_there w whole index c (other_end e) get
        (end_inside n (slots_of (layout_of w)) w.ring.circuits.circuits form index c get (other_end e)))).1
        ∙ ap (λ t. ticks t (clock_at w.ring id)) number

    pub delivers_by : (j : ℕ) → outlet_at (run (suc j) u).ring (port_id index e)
        ≡ due_by_clocks (length u.ring.ids) (is_applied rs) c e (clocks_from w (port_id index (other_end e))) (u.ring.rounds + j)
        → DeliversItsDue (clocks_from w) (run (suc j) u) rs c index e
    delivers_by j so =
        let number : u.ring.rounds + j ≡ (run (suc j) u).ring.rounds - 1 = (let r = (left_run (suc j) u).rounds in omega arith) in
        so
        ∙ ap (due_by_clocks (length u.ring.ids) (is_applied rs) c e (clocks_from w (port_id index (other_end e)))) number
        ∙ ap (λ (l : Layout). due_by_clocks (positions_of l) (is_applied rs) c e (clocks_from w (port_id index (other_end e)))
        ((run (suc j) u).ring.rounds - 1)) (sym (layout_run u (suc j)))

    abbrev pub form_u : HasCircuits (layout_of u)
    form_u = subst HasCircuits (sym (layout_run w base)) form

    abbrev pub clocks : ℕ → Clock
    clocks = clocks_from w (port_id index (other_end e))

    delivers : (j : ℕ) → 8 * n ≤ j + 8 → DeliversItsDue (clocks_from w) (run (suc j) u) rs c index e
    delivers j enough =
        delivers_by j (port_delivers u whole_u form_u rs at_rest uncut index c get_u e clocks tells j (omega (arith, ids_u, enough)))

    -- a port of a joined circuit delivers what it is owed after enough rounds
    abbrev Joined : ℕ → ℕ → Type 0
    Joined j size =
        is_joined size (is_applied rs) (arc_of size c) ≡ true → 4 * hops size (is_applied rs) (arc_of size c) + 4 ≤ j
        → DeliversItsDue (clocks_from w) (run (suc j) u) rs c index e

    joined_at : (j : ℕ) → Joined j n
    joined_at j =
        subst (Joined j) ids_u (λ joined enough. delivers_by j
        (joined_delivers u whole_u form_u rs at_rest uncut index c get_u e clocks tells j enough joined))

    abbrev JoinedBy : ℕ → List ℕ → Type 0
    JoinedBy k qs =
        is_joined n (is_applied qs) (arc_of n c) ≡ true → base + 4 * hops n (is_applied qs) (arc_of n c) + 5 ≤ k
        → DeliversItsDue (clocks_from w) (run k w) qs c index e

    joined_so : (k : ℕ) → JoinedBy k rs
    joined_so k joined enough =
        let j = k - base - 1 in
        let now : suc j + base ≡ k = omega (arith, enough) in
        let there : run (suc j) u ≡ run k w = run_more w base (suc j) ∙ ap (λ i. run i w) now in
        subst (λ v. DeliversItsDue (clocks_from w) v rs c index e) there (joined_at j joined (omega (arith, enough)))

    pub joined_owed : (k : ℕ) → JoinedBy k (span_requests_of (run k w))
    joined_owed k joined enough = subst (JoinedBy k) (sym (requests_from k (omega (arith, late, enough)))) (joined_so k) joined enough

    abbrev PartedBy : ℕ → List ℕ → Type 0
    PartedBy k qs = is_joined n (is_applied qs) (arc_of n c) ≡ false → f + 5 * n ≤ k → DeliversItsDue (clocks_from w) (run k w) qs c index e

    -- a port of a circuit whose ends are parted has AIS sooner
    pub parted_owed : (k : ℕ) → PartedBy k (span_requests_of (run k w))
    parted_owed k parted enough = let two = whole.placed.ids.enough in
        subst (PartedBy k) (sym (requests_from k (omega (arith, enough, two)))) (λ other more. cut_off_owed w whole form f free index c get other k e more)
        parted enough

  pub owed_from : (away : ℕ) → f + 5 * n ≤ away → ArePortsOwedFrom w base away
  owed_from away long = record {
    joined = λ k index c get e. joined_owed index c get e k;
    parted = λ k index c get e other enough. parted_owed index c get e k other (omega arith);
  }

  restored_at : (j : ℕ) → 8 * n ≤ j + 8 → IsRestored (clocks_from w) (run (suc j) u) rs
  restored_at j enough = record {
    states = ap (λ v. (signals_of v).states) (run_more w base (suc j)) ∙ states_from (suc j + base) (omega (arith, late));
    ports =
        λ index c get e. delivers index c (ap (λ (l : Layout). slice_get l.circuits index)
        (sym (layout_run w base) ∙ sym (layout_run u (suc j))) ∙ get) e j enough;
  }

  pub restored : (k : ℕ) → 8 * n + base ≤ k + 7 → base + 1 ≤ k → IsRestored (clocks_from w) (run k w) (span_requests_of (run k w))
  restored k enough some =
      let j = k - base - 1 in
      let now : suc j + base ≡ k = omega (arith, some) in
      let there : run (suc j) u ≡ run k w = run_more w base (suc j) ∙ ap (λ i. run i w) now in
      subst (λ qs. IsRestored (clocks_from w) (run k w) qs) (sym (requests_from k (omega (arith, late, some))))
      (subst (λ v. IsRestored (clocks_from w) v rs) there (restored_at j (omega (arith, enough, some))))

pub rings_are_restored_soon : RingsSettle → RingsAreRestoredSoon
rings_are_restored_soon law w whole form k enough =
    let two = whole.placed.ids.enough in
    restored law w whole form 100 (4 * length w.ring.ids + 109) (free_at w whole) (omega arith)
    (none_wait w whole (4 * length w.ring.ids + 109) (omega arith)) k (omega arith) (omega arith)

pub unslipped_rings_are_restored_soon : RingsSettle → UnslippedRingsAreRestoredSoon
unslipped_rings_are_restored_soon law w whole form free none k enough =
    let two = whole.placed.ids.enough in
    restored law w whole form 0 (4 * length w.ring.ids + 9) (λ k h. free_stays w whole free k) (omega arith)
    (none_waits_later w whole none (4 * length w.ring.ids + 9)) k (omega arith) (omega arith)

-- where slips wait they are gone by round 68
pub free_rings_are_restored_soon : RingsSettle → FreeRingsAreRestoredSoon
free_rings_are_restored_soon law w whole form free k enough slips =
    let two = whole.placed.ids.enough in
    let base = 4 * length w.ring.ids + 9 in
    elim (cases_lt base 68) [
      | inl less ↦ restored law w whole form 0 68 (λ k h. free_stays w whole free k) (omega arith) (none_wait w whole 68 (omega arith)) k
          (omega arith) (omega arith)
      | inr more ↦ restored law w whole form 0 base (λ k h. free_stays w whole free k) (omega arith) (none_wait w whole base more) k
          (omega arith) (omega arith)
    ]

pub ports_are_owed_soon : RingsSettle → PortsAreOwedSoon
ports_are_owed_soon law w whole form =
    owed_from law w whole form 100 (4 * length w.ring.ids + 109) (free_at w whole) (omega arith)
    (none_wait w whole (4 * length w.ring.ids + 109) (omega arith)) (5 * length w.ring.ids + 100) (omega arith)

pub unslipped_ports_are_owed_soon : RingsSettle → UnslippedPortsAreOwedSoon
unslipped_ports_are_owed_soon law w whole form free none =
    owed_from law w whole form 0 (4 * length w.ring.ids + 9) (λ k h. free_stays w whole free k) (omega arith)
    (none_waits_later w whole none (4 * length w.ring.ids + 9)) (5 * length w.ring.ids) (omega arith)

-- ---- settle steps

pub unsettled_rings_are_restored : RingsSettle → UnsettledRingsAreRestored
unsettled_rings_are_restored law w left limit form unsettles whole enough =
    subst (λ v. IsRestored (clocks_from w) v (span_requests_of v))
    (sym (known_unsettles adm w limit left (inl whole.paired.honest.honest) unsettles).1)
    (rings_are_restored_soon law w whole form limit enough)
