-- The quiet window that ends a step, and what ports have delivered after it.
use Rattle.std.proofs.Common.{◌≡◌, ℕ, suc, ◌+◌, ◌-◌, ◌*◌, ◌<◌, ◌≤◌, Bool, Some, List, [], ◌∷◌, ◌++◌, length, refl, ap, sym, ◌∙◌}
use Rattle.std.proofs.Common.{subst, arith, inl}
use Rattle.std.specs.Prelude.{slice_get, slice_index_or, ◌/◌, if◌then◌else◌}
use Rattle.std.proofs.lemmas.List.{get_or-map}
use Rattle.sdh_basics.proofs.CellsLaws.{get_or-cells}
use Rattle.sdh_circuits.specs.Provisioned.{Provisioned, arc_of, customer_at}
use Rattle.sdh_circuits.specs.Provisioning.{Provisioning, AreCircuits}
use Rattle.sdh_nodestate.specs.declared.NodeState.{NodeState}
use Rattle.sdh_restoration.specs.Applied.{span_requests, is_applied}
use Rattle.sdh_signal.specs.Settled.{settled, settled_states}
use Rattle.sdh_signal.specs.Laws.{StillRingsAreSettled}
use Rattle.sdh_node.specs.Rings.Rounds.{World, round}
use Rattle.sdh_node.specs.Rings.Runs.{run, course}
use Rattle.sdh_node.specs.Rings.Quiet.{IsCalm, EndsWindow}
use Rattle.sdh_restoration.specs.Changes.{Change, Fibre, Order, Hold, Slip, Now, Stretch, rounds_in}
use Rattle.sdh_node.specs.Rings.Changes.{changed, all_changed, after_stretch, after_stretches, new_world}
use Rattle.sdh_rounds.proofs.Runs.{known_settles}
use Rattle.sdh_laws.specs.Hearing.Signalling.{signals_of}
use Rattle.sdh_payload.specs.Clock.{Clock, ticks}
use Rattle.sdh_payload.specs.Outlet.{silent}
use Rattle.sdh_spans.specs.Brought.{plainly}
use Rattle.sdh_ringmap.specs.Arcs.{is_joined}
use Rattle.sdh_circuits.specs.declared.End.{End}
use Rattle.sdh_circuits.specs.declared.PortId.{PortId}
use Rattle.sdh_restoration.specs.Routes.{hops}
use Rattle.sdh_restoration.specs.Due.{due}
use Rattle.sdh_circuits.specs.Ends.{other_end, port_id}
use Rattle.sdh_ringmap.specs.Rates.{n_of}
use Rattle.sdh_plant.specs.Fibres.{Fibres}
use Rattle.sdh_request.specs.declared.settings.Settings.{Settings}
use Rattle.sdh_signal.specs.Walks.{port_at}
use Rattle.sdh_signal.proofs.Ways.{short, few_hops, end_inside}
use Rattle.sdh_node.specs.Rings.Sides.{world_in}
use Rattle.sdh_node.specs.Rings.Laws.{MayHappen}
use Rattle.sdh_node.specs.Rings.Clocks.{clock_in, clocks_by, HasPortIn, clock_at, clocks_from}
use Rattle.sdh_node.proofs.RingLaws.Clocks.{goes_run, goes_in, clocks_go_on}
use Rattle.sdh_restoration.specs.Sides.{asked_in}
use Rattle.sdh_laws.specs.Hearing.Laws.{IsWhole, MayStart}
use Rattle.sdh_laws.proofs.hearing.Staying.{left_all, left_run, left_stretches, world_low, world_high}
use Rattle.sdh_laws.proofs.hearing.Changes.{whole_run, new_worlds_are_whole}
use Rattle.sdh_laws.proofs.hearing.Requests.{whole_last, requests_last, after_last}
use Rattle.sdh_laws.proofs.hearing.Signalling.{requests_stay, windows_are_settled}
use Rattle.sdh_laws.specs.Carrying.Windows.{Layout, layout_of, positions_of, HasCircuits, span_requests_of, AreSettled, FailOnApplied, IsQuiet}
use Rattle.sdh_laws.specs.Carrying.Laws.{due_by_clocks, DeliversItsDue, IsRestored, SettledRingsAreRestored, SettledRingsRestore}
use Rattle.sdh_laws.specs.Carrying.Laws.{RingsHaveCircuits}
use Rattle.sdh_laws.proofs.carrying.Applied.{failures_applied, length-requests_of}
use Rattle.sdh_laws.proofs.carrying.Owed.{quiet_delivers, port_is_there}
use Rattle.sdh_laws.proofs.carrying.Ways.{layout_run}
use Rattle.sdh_laws.proofs.converging.Runs.{nodes_run}
use Rattle.sdh_node.specs.Rings.Held.{nowhere}
use Rattle.sdh_node.specs.Stations.{adm}
use Rattle.sdh_rounds.specs.Runs as any_run
use Rattle.sdh_rounds.proofs.Terms.{terms}
use Rattle.sdh_circuits.proofs.Rings.{circuits_are}

-- ---- one position

pub each_settled : (v : World) (n : ℕ) (rs : List ℕ) → length v.ring.nodes ≡ n → length rs ≡ n → (signals_of v).states ≡ settled_states rs
    → AreSettled n rs v
unfolding signals_of
each_settled v n rs size spans same p lt =
    sym (get_or-map (λ n. n.state) v.ring.nodes p nowhere nowhere.state (omega arith))
    ∙ ap (λ (l : List NodeState). slice_index_or l p nowhere.state) same
    ∙ get_or-cells (settled rs) (length rs) p nowhere.state (omega arith)

-- what fails in a run is applied
pub failing_after : (w : World) → IsWhole w → (j : ℕ) → FailOnApplied (length w.ring.ids) (span_requests_of (run (suc j) w)) (run (suc j) w)
unfolding any_run.run
failing_after w whole j =
    subst (λ (l : Layout). FailOnApplied (positions_of l) (span_requests_of (round (run j w))) (round (run j w))) (layout_run w j)
    (failures_applied (run j w) (whole_run w j whole))

-- ---- the window that ends with round k

module _ (law : StillRingsAreSettled) (w : World) (whole : IsWhole w) (k : ℕ) (ends : EndsWindow (course w) k) where
  open terms w use {n}

  abbrev rs : List ℕ
  rs = span_requests_of (run k w)

  long : 3 * n ≤ k
  long = let e = ap positions_of (layout_run w k) in let l = ends.long in omega arith

  calm_at : (j : ℕ) → k < j + 3 * n → j ≤ k → IsCalm (course w) j
  calm_at j low high = ends.calm j (let e = ap positions_of (layout_run w k) in omega arith) high

  requests_same : (j : ℕ) → k < j + 3 * n → j ≤ k → span_requests_of (run j w) ≡ rs
  requests_same j low high =
      let rest : j + (k - j) ≡ k = omega arith in
      sym (requests_stay w j (k - j) whole (λ i after until. calm_at i (omega arith) (omega arith))) ∙ ap (λ i. span_requests_of (run i w)) rest

  pub settled_at : (j : ℕ) → k < j + 3 * n → j ≤ k → AreSettled n rs (run j w)
  settled_at j low high =
      each_settled (run j w) n rs (nodes_run w whole j) (length-requests_of (run k w) n (nodes_run w whole k))
      (windows_are_settled law w k j whole ends low high)

  failing_at : (j : ℕ) → 1 ≤ j → k < j + 3 * n → j ≤ k → FailOnApplied n rs (run j w)
  failing_at j some low high =
      let one : suc (j - 1) ≡ j = omega arith in
      subst (λ qs. FailOnApplied n qs (run j w)) (requests_same j low high)
      (subst (λ i. FailOnApplied n (span_requests_of (run i w)) (run i w)) one (failing_after w whole (j - 1)))

  quiet : IsQuiet n rs w (k + 1 - 3 * n) k
  quiet = record {
    spans = length-requests_of (run k w) n (nodes_run w whole k);
    calm = λ j early late. calm_at j (omega (arith, whole.placed.ids.enough)) late;
    settled_are = λ j early late. settled_at j (omega (arith, whole.placed.ids.enough)) late;
    failing = λ j early late. failing_at j (omega (arith, long)) (omega (arith, whole.placed.ids.enough)) late;
  }

  pub window_restores : HasCircuits (layout_of w) → IsRestored (clocks_from w) (run k w) rs
  window_restores form = record {
    states = windows_are_settled law w k k whole ends (omega (arith, whole.placed.ids.enough)) (omega arith);
    ports = quiet_delivers w whole form rs (k + 1 - 3 * n) k quiet (omega (arith, long)) (omega (arith, long, whole.placed.ids.enough));
  }

-- ---- a step

pub steps_restore : StillRingsAreSettled → SettledRingsAreRestored
steps_restore law w left limit form settles whole =
    let known = known_settles adm w limit left (inl whole.paired.honest.honest) settles in
    subst (λ v. IsRestored (clocks_from w) v (span_requests_of v)) (sym known.2) (window_restores law w whole known.0 known.1.window form)

-- ---- stretches

pub layout_changed : (c : Change) (w : World) → layout_of (changed c w) ≡ layout_of w
unfolding changed
layout_changed (Fibre p d condition) w = refl
layout_changed (Order p d c) w = refl
layout_changed (Hold p turns) w = refl
layout_changed (Slip port turn more) w = refl
layout_changed (Now t) w = refl

pub layout_all : (cs : List Change) (w : World) → layout_of (all_changed cs w) ≡ layout_of w
layout_all [] w = refl
layout_all (c ∷ cs) w = layout_all cs (changed c w) ∙ layout_changed c w

pub layout_stretches : (ss : List Stretch) (w : World) → layout_of (after_stretches ss w) ≡ layout_of w
layout_stretches [] w = refl
layout_stretches (s ∷ ss) w =
    layout_stretches ss (after_stretch s w) ∙ layout_run (all_changed s.changes w) s.rounds ∙ layout_all s.changes w

-- the world in which a round of the last of some stretches begins
world_last : (earlier : List Stretch) (last : Stretch) (w : World) (t : ℕ) → rounds_in earlier ≤ t → t < rounds_in earlier + last.rounds
    → world_in (earlier ++ last ∷ []) w t ≡ run (t - rounds_in earlier) (all_changed last.changes (after_stretches earlier w))
world_last [] last w t low high =
    world_low last [] w t (omega arith) ∙ ap (λ k. run k (all_changed last.changes w)) (let none : t ≡ t - 0 = omega arith in none)
world_last (s ∷ ss) last w t low high =
    let left : t - s.rounds - rounds_in ss ≡ t - (s.rounds + rounds_in ss) = omega arith in
    world_high s (ss ++ last ∷ []) w t (omega arith) ∙ world_last ss last (after_stretch s w) (t - s.rounds) (omega arith) (omega arith)
    ∙ ap (λ k. run k (all_changed last.changes (after_stretches (s ∷ ss) w))) left

-- what a port is owed in round t depends on one clock alone: the other port's in the round in which it sent
pub due_by : (n : ℕ) (applied : ℕ → Bool) (c : Provisioned) (e : End) (f g : ℕ → Clock) (t : ℕ)
    → f (t - hops n applied (arc_of n c)) ≡ g (t - hops n applied (arc_of n c))
    → due_by_clocks n applied c e f t ≡ due_by_clocks n applied c e g t
unfolding due
due_by n applied c e f g t same =
    ap (λ (k : Clock). if is_joined n applied (arc_of n c) then plainly (customer_at c (other_end e)) k else silent) same

module _ (s : Settings) (ids : List ℕ) (circuits : Provisioning) (f : Fibres) (earlier : List Stretch) (last : Stretch) (t : ℕ)
    (may : MayStart s ids f) (happen : MayHappen (new_world s ids circuits f) (earlier ++ last ∷ []))
    (form : AreCircuits (length ids) (n_of s.rate / 2) circuits.circuits) (many : rounds_in (earlier ++ last ∷ []) ≡ t + 1) where
  abbrev pub begun : World
  begun = new_world s ids circuits f

  abbrev pub v : World
  v = all_changed last.changes (after_stretches earlier begun)

  abbrev pub u : World
  u = run last.rounds v

  abbrev ss : List Stretch
  ss = earlier ++ last ∷ []

  abbrev qs : List ℕ
  qs = span_requests (length ids) (asked_in s.threshold s.wait (length ids) ss t)

  pub whole_v : IsWhole v
  whole_v = whole_last s ids circuits f earlier last may happen

  pub layout_v : layout_of v ≡ layout_of begun
  layout_v = layout_all last.changes (after_stretches earlier begun) ∙ layout_stretches earlier begun

  rounds_v : v.ring.rounds ≡ rounds_in earlier
  rounds_v = let a = (left_all last.changes (after_stretches earlier begun)).rounds in let b =
      (left_stretches earlier begun).rounds in omega arith

  rounds_u : u.ring.rounds ≡ rounds_in earlier + last.rounds
  rounds_u = omega (arith, (left_run last.rounds v).rounds, rounds_v)

  rounds_all : u.ring.rounds ≡ rounds_in ss
  rounds_all =
      let none : begun.ring.rounds ≡ 0 = refl in
      omega (arith, ap (λ (y : World). y.ring.rounds) (after_last earlier last begun), (left_stretches ss begun).rounds, none)

  -- a port's clock as rounds take it on from the last stretch is its clock by the history of all stretches
  module _ (id : PortId) (there : HasPortIn begun.ring id) (there_v : HasPortIn v.ring id) (k : ℕ) (low : rounds_in earlier ≤ k)
      (high : k < rounds_in earlier + last.rounds) where
    clock_same : clocks_from v id k ≡ clocks_by circuits.circuits ss id k
    clock_same =
        ap (λ r. ticks (k - r) (clock_at v.ring id)) rounds_v
        ∙ sym (goes_run id (k - rounds_in earlier) v there_v).1
        ∙ ap (λ (y : World). clock_at y.ring id) (sym (world_last earlier last begun k low high))
        ∙ (goes_in id ss k begun (omega (arith, rounds_u, rounds_all, high)) there).1
        ∙ ap (λ c. clock_in id ss c k) (clocks_go_on.new s ids circuits id there)

  -- where the last stretch had enough rounds for a window
  module _ (long : 3 * length u.ring.ids ≤ last.rounds) where
    -- a port that delivered what it is owed by the clocks from there on did so by those of the history
    by_history : (index : ℕ) (c : Provisioned) → slice_get u.ring.circuits.circuits index ≡ Some c → (e : End)
        → DeliversItsDue (clocks_from v) u qs c index e → DeliversItsDue (clocks_by circuits.circuits ss) u qs c index e
    by_history index c get e delivered =
        let n = length u.ring.ids in
        let applied = is_applied qs in
        let far = other_end e in
        let id = port_id index far in
        let k = u.ring.rounds - 1 - hops n applied (arc_of n c) in
        let here : slice_get v.ring.circuits.circuits index ≡ Some c =
        ap (λ (l : Layout). slice_get l.circuits index) (sym (layout_run v last.rounds)) ∙ get in
        let first : slice_get circuits.circuits index ≡ Some c = ap (λ (l : Layout). slice_get l.circuits index) (sym layout_v) ∙ here in
        let form_u : AreCircuits n (n_of s.rate / 2) circuits.circuits =
        subst (λ (l : Layout). AreCircuits (positions_of l) (n_of s.rate / 2) circuits.circuits)
        (sym (layout_run v last.rounds ∙ layout_v)) form in
        let few = few_hops n applied c (short n applied (n_of s.rate / 2) circuits.circuits form_u index c first) in
        let size : n ≡ length ids = ap positions_of (layout_run v last.rounds ∙ layout_v) in
        let inside = end_inside (length ids) (n_of s.rate / 2) circuits.circuits form index c first far in
        let whole_w = new_worlds_are_whole s ids circuits f may.ids_ok may.honest in
        let there = port_is_there begun whole_w index c far first inside in
        let there_v = port_is_there v whole_v index c far here (subst (λ (l : Layout). port_at c far < positions_of l) (sym layout_v) inside) in
        delivered
        ∙ due_by n applied c e (clocks_from v id) (clocks_by circuits.circuits ss id) (u.ring.rounds - 1)
        (clock_same id there there_v k (omega (arith, rounds_u, few, long, may.ids_ok.enough))
        (omega (arith, rounds_u, few, long, may.ids_ok.enough)))

    pub port_by_history : (index : ℕ) (c : Provisioned) → slice_get circuits.circuits index ≡ Some c → (e : End)
        → DeliversItsDue (clocks_from v) u (span_requests_of u) c index e
        → DeliversItsDue (clocks_by circuits.circuits ss) (after_stretches ss begun) qs c index e
    port_by_history index c get e delivered =
        subst (λ y. DeliversItsDue (clocks_by circuits.circuits ss) y qs c index e) (sym (after_last earlier last begun))
        (by_history index c (ap (λ (l : Layout). slice_get l.circuits index) (layout_run v last.rounds ∙ layout_v) ∙ get) e
        (subst (λ rs. DeliversItsDue (clocks_from v) u rs c index e) (requests_last s ids circuits f earlier last may happen t many) delivered))

    -- where it left the ring restored under the requests of its last round
    module _ (settled_u : IsRestored (clocks_from v) u (span_requests_of u)) where
      restored : IsRestored (clocks_from v) u qs
      restored = subst (IsRestored (clocks_from v) u) (requests_last s ids circuits f earlier last may happen t many) settled_u

      pub restored_by_history : IsRestored (clocks_by circuits.circuits ss) (after_stretches ss begun) qs
      restored_by_history =
          subst (λ y. IsRestored (clocks_by circuits.circuits ss) y qs) (sym (after_last earlier last begun))
          (record { states = restored.states; ports = λ index c get e. by_history index c get e (restored.ports index c get e) })

pub stretches_restore : StillRingsAreSettled → SettledRingsRestore
stretches_restore law s ids circuits f earlier last t may happen form ends many =
    let whole = whole_v s ids circuits f earlier last t may happen form many in
    let circuits_v = subst HasCircuits (sym (layout_v s ids circuits f earlier last t may happen form many)) form in
    restored_by_history s ids circuits f earlier last t may happen form many ends.long
    (window_restores law (v s ids circuits f earlier last t may happen form many) whole last.rounds ends circuits_v)

-- ---- the circuits of a ring

pub rings_circuits : RingsHaveCircuits
rings_circuits r is =
    subst (λ s. AreCircuits (length r.ids) s r.circuits.circuits) is.slots (circuits_are r.circuits r.ids is.circuits is.kept)
