-- How soon each port has what it is owed, after stretches that ended with quiet windows.
use Rattle.std.proofs.Common.{◌≡◌, ◌⊎◌, ℕ, ◌+◌, ◌-◌, ◌*◌, ◌≤◌, true, false, Some, List, [], ◌∷◌, ◌++◌, length, refl, ap, sym, ◌∙◌, subst, arith, inl, inr}
use Rattle.std.specs.Prelude.{nat_le, slice_get, ◌%◌}
use Rattle.sdh_ringmap.specs.Places.{position_of}
use Rattle.sdh_circuits.specs.Ends.{other_end, port_id}
use Rattle.sdh_circuits.specs.Provisioned.{Provisioned, arc_of}
use Rattle.sdh_circuits.specs.declared.End.{End}
use Rattle.sdh_circuits.specs.Provisioning.{Provisioning}
use Rattle.sdh_payload.specs.declared.clock.Turn.{Turn}
use Rattle.sdh_payload.specs.Clock.{Clock, waiting, with_waiting}
use Rattle.sdh_plant.specs.Fibres.{Fibres}
use Rattle.sdh_request.specs.declared.settings.Settings.{Settings}
use Rattle.sdh_restoration.specs.Applied.{span_requests, is_applied}
use Rattle.sdh_restoration.specs.Routes.{hops}
use Rattle.sdh_ringmap.specs.Arcs.{is_joined}
use Rattle.sdh_terminal.specs.Tributaries.{Tributary}
use Rattle.sdh_terminal.proofs.Slips.{waiting_more}
use Rattle.sdh_node.specs.Receiving.{commanded_by}
use Rattle.sdh_node.specs.Node.{new_node, is_held, at_receiving, held_for, slips_at}
use Rattle.sdh_node.specs.Rings.Held.{new_ring, place_of_port, outlet_at}
use Rattle.sdh_node.specs.Rings.Rounds.{World}
use Rattle.sdh_node.specs.Rings.Runs.{run, course}
use Rattle.sdh_node.specs.Rings.Quiet.{EndsWindow}
use Rattle.sdh_node.specs.Rings.Changes.{changed, all_changed, after_stretch, after_stretches, new_world}
use Rattle.sdh_node.specs.Rings.Clocks.{clocks_from, clocks_by}
use Rattle.sdh_node.specs.Rings.Laws.{MayHappen}
use Rattle.sdh_node.proofs.RingLaws.Clocks.{slips_keep}
use Rattle.sdh_restoration.specs.Changes as change
use Rattle.sdh_restoration.specs.Changes.{Change, Stretch, rounds_in}
use Rattle.sdh_restoration.specs.Happened.{happened}
use Rattle.sdh_owed.specs.Reports.{ports_of, report_of}
use Rattle.sdh_promise.specs.Owed.{Ring, owed_port, IsOwed}
use Rattle.sdh_restoration.specs.Sides.{asked_in}
use Rattle.sdh_laws.specs.Hearing.Laws.{IsWhole, MayStart, NoneWait}
use Rattle.sdh_laws.specs.Carrying.Laws.{due_by_clocks, DeliversItsDue, IsRestored}
use Rattle.sdh_laws.specs.Carrying.Windows.{Layout, layout_in, layout_of, positions_of, HasCircuits, span_requests_of}
use Rattle.sdh_laws.specs.Converging.Steady.{IsUnslipped}
use Rattle.sdh_laws.specs.Restoring.Laws.{NoControllerHeld, StretchesAreRestoredSoon, FreeRingsAreRestoredSoon}
use Rattle.sdh_laws.specs.Restoring.Followed.{IsFollowed, NewRingsAreFollowed, ChangesKeepFollowed, WindowsLeaveFollowed}
use Rattle.sdh_laws.specs.Restoring.Followed.{HeldFollowedRingsAreRestoredSoon, FollowedPortsAreOwedSoon}
use Rattle.sdh_laws.specs.Strangers.Laws.{HoldsNone, HoldNone, EndQuietly}
use Rattle.sdh_laws.proofs.hearing.Changes.{each_new, each_at_place, new_worlds_are_whole, whole_all, whole_run}
use Rattle.sdh_laws.proofs.hearing.Clocks.{new_none}
use Rattle.sdh_laws.proofs.hearing.Requests.{after_last, requests_last}
use Rattle.sdh_laws.proofs.hearing.Staying.{left_stretch, left_stretches}
use Rattle.sdh_laws.proofs.hearing.Steady.{AllHeldFor, free_at, none_wait, held_for_none}
use Rattle.sdh_laws.proofs.carrying.Owed.{offset_small}
use Rattle.sdh_laws.proofs.carrying.Settles.{layout_all, layout_stretches, whole_v, restored_by_history, port_by_history}
use Rattle.sdh_laws.proofs.carrying.Ways.{layout_run}
use Rattle.sdh_owed.specs.Laws.{ring_by}
use Rattle.sdh_owed.specs.Course.{stretch, SlipsNone, SlipNone, IsLate, ShowsWhatIsOwed}
use Rattle.sdh_owed.proofs.Holding.{held_by_all}
use Rattle.sdh_owed.proofs.Ports.{due_told, owed_now}
use Rattle.sdh_owed.specs.Strangers.{longest_hold}
use Rattle.sdh_owed.specs.Running.{BeginsAtAMultiple}

-- the laws from which it follows that each port soon has what it is owed
pub record RestoredSoon : Type 0 where
  pub stretches : StretchesAreRestoredSoon
  pub free : FreeRingsAreRestoredSoon
  pub held : HeldFollowedRingsAreRestoredSoon
  pub ports : FollowedPortsAreOwedSoon
  pub fresh : NewRingsAreFollowed
  pub changes : ChangesKeepFollowed
  pub windows : WindowsLeaveFollowed

-- ---- no controller is held, and no slip waits

pub record IsReady (w : World) : Type 0 where
  pub free : NoControllerHeld w
  pub none : IsUnslipped w

new_free : (s : Settings) (ids : List ℕ) (cs : List Provisioned) (p : ℕ) → is_held (new_node s ids cs (position_of p)) ≡ false
unfolding new_node
new_free s ids cs p = refl

new_unslipped : (s : Settings) (ids : List ℕ) (cs : List Provisioned) (p : ℕ) → NoneWait (new_node s ids cs (position_of p)).ports
unfolding new_node
new_unslipped s ids cs p = new_none (position_of p) cs

pub ready_new : (s : Settings) (ids : List ℕ) (circuits : Provisioning) (f : Fibres) → IsReady (new_world s ids circuits f)
ready_new s ids circuits f = record {
  free = each_new (λ p n. is_held n ≡ false) s ids circuits.circuits (λ p low. new_free s ids circuits.circuits p);
  none = each_new (λ p n. NoneWait n.ports) s ids circuits.circuits (λ p low. new_unslipped s ids circuits.circuits p);
}

-- changes that hold no controller leave none held
free_changed : (c : Change) (w : World) → HoldsNone c → NoControllerHeld w → NoControllerHeld (changed c w)
unfolding changed
free_changed (change.Fibre p d condition) w none free = free
free_changed (change.Order p d command) w none free =
    each_at_place (λ q n. is_held n ≡ false) (at_receiving d (commanded_by command)) (λ q n h. h) p w.ring.nodes free
free_changed (change.Hold p turns) w none free =
    each_at_place (λ q n. is_held n ≡ false) (held_for turns) (λ q n h. ap (nat_le 1) none) p w.ring.nodes free
free_changed (change.Slip port turn count) w none free =
    each_at_place (λ q n. is_held n ≡ false) (slips_at port turn count) (λ q n h. h) (place_of_port w.ring port) w.ring.nodes free
free_changed (change.Now t) w none free = free

pub free_all : (cs : List Change) (w : World) → HoldNone cs → NoControllerHeld w → NoControllerHeld (all_changed cs w)
free_all [] w none free = free
free_all (c ∷ cs) w none free = free_all cs (changed c w) none.1 (free_changed c w none.0 free)

-- no slip waits after changes that give none
none_more : (turn : Turn) (count : ℕ) (c : Clock) → count ≡ 0 → waiting c ≡ 0 → waiting (with_waiting turn count c) ≡ 0
none_more turn count c none rests = omega (arith, waiting_more turn count c, none, rests)

unslipped_changed : (c : Change) (w : World) → SlipsNone c → IsUnslipped w → IsUnslipped (changed c w)
unfolding changed
unslipped_changed (change.Fibre p d condition) w none all = all
unslipped_changed (change.Order p d command) w none all =
    each_at_place (λ q n. NoneWait n.ports) (at_receiving d (commanded_by command)) (λ q n h. h) p w.ring.nodes all
unslipped_changed (change.Hold p turns) w none all =
    each_at_place (λ q n. NoneWait n.ports) (held_for turns) (λ q n h. h) p w.ring.nodes all
unslipped_changed (change.Slip port turn count) w none all =
    each_at_place (λ q n. NoneWait n.ports) (slips_at port turn count)
    (λ q n h. slips_keep (λ (t : Tributary). waiting t.feed.clock ≡ 0) port turn count n.ports
    (λ t found rests. none_more turn count t.feed.clock none rests) h) (place_of_port w.ring port) w.ring.nodes all
unslipped_changed (change.Now t) w none all = all

unslipped_all : (cs : List Change) (w : World) → SlipNone cs → IsUnslipped w → IsUnslipped (all_changed cs w)
unslipped_all [] w none all = all
unslipped_all (c ∷ cs) w none all = unslipped_all cs (changed c w) none.1 (unslipped_changed c w none.0 all)

-- ---- stretches that ended with quiet windows

-- each of these stretches has at least 100 rounds, which use up all held turns and all slips
abbrev AllLong : List Stretch → Type 0
AllLong [] = Unit {0}
AllLong (s ∷ ss) = (100 ≤ s.rounds) × AllLong ss

-- a stretch that begins and ends at a multiple of 128 has at least 100 rounds
long_between : (a b : ℕ) → (a ≡ 0) ⊎ ((a - 1) % 128 ≡ 0) → 6 ≤ b → (a + b - 1) % 128 ≡ 0 → 100 ≤ b
long_between a b (inl none) some ends = omega (arith, none, some, ends)
long_between a b (inr begins) some ends = omega (arith, begins, some, ends)

module _ (s : Stretch) (w : World) (two : 2 ≤ length w.ring.ids) (begins : BeginsAtAMultiple w.ring)
    (ends : EndsWindow (course (all_changed s.changes w)) s.rounds) where
  size : length (after_stretch s w).ring.ids ≡ length w.ring.ids
  size = ap (λ (l : List ℕ). length l) (left_stretch s w).ids

  long_one : 100 ≤ s.rounds
  long_one =
      long_between w.ring.rounds s.rounds begins (omega (arith, ends.long, size, two))
      (ap (λ k. (k - 1) % 128) (sym (left_stretch s w).rounds) ∙ ends.place)

long_front : (earlier : List Stretch) (last : Stretch) (more : List Stretch) (w : World) → 2 ≤ length w.ring.ids → BeginsAtAMultiple w.ring
    → EndQuietly w (earlier ++ last ∷ more) → AllLong earlier
long_front [] last more w two begins quiet = tt
long_front (s ∷ []) last more w two begins quiet = (long_one s w two begins quiet.0, tt)
long_front (s ∷ r ∷ earlier) last more w two begins quiet = (
  long_one s w two begins quiet.0,
  long_front (r ∷ earlier) last more (after_stretch s w) (omega (arith, size s w two begins quiet.0, two)) (inr quiet.0.place) quiet.1,
)

-- after stretches of at least 100 rounds no controller is held and no slip waits
ready_after : (ss : List Stretch) (w : World) → IsWhole w → MayHappen w ss → AllLong ss → IsReady w → IsReady (after_stretches ss w)
ready_after [] w whole may long ready = ready
ready_after (s ∷ ss) w whole may long ready =
    let v = all_changed s.changes w in
    let whole_then = whole_all s.changes w may.0 whole in
    ready_after ss (after_stretch s w) (whole_run v s.rounds whole_then) may.1 long.1 (record {
      free = free_at v whole_then s.rounds long.0;
      none = none_wait v whole_then s.rounds (omega (arith, long.0));
    })

-- ---- interpreters follow

followed_all : ChangesKeepFollowed → (cs : List Change) (w : World) → IsFollowed w → IsFollowed (all_changed cs w)
followed_all law [] w followed = followed
followed_all law (c ∷ cs) w followed = followed_all law cs (changed c w) (law w c followed)

-- after stretches that ended with quiet windows
followed_front : WindowsLeaveFollowed → (earlier : List Stretch) (last : Stretch) (more : List Stretch) (w : World) → IsWhole w
    → HasCircuits (layout_of w) → MayHappen w (earlier ++ last ∷ more) → EndQuietly w (earlier ++ last ∷ more) → IsFollowed w
    → IsFollowed (after_stretches earlier w)
followed_front law [] last more w whole form may quiet followed = followed
followed_front law (s ∷ []) last more w whole form may quiet followed =
    law (all_changed s.changes w) (whole_all s.changes w may.0 whole) (subst HasCircuits (sym (layout_all s.changes w)) form) s.rounds quiet.0
followed_front law (s ∷ r ∷ earlier) last more w whole form may quiet followed =
    let v = all_changed s.changes w in
    let whole_then = whole_all s.changes w may.0 whole in
    let form_then = subst HasCircuits (sym (layout_all s.changes w)) form in
    followed_front law (r ∷ earlier) last more (after_stretch s w) (whole_run v s.rounds whole_then)
    (subst HasCircuits (sym (layout_run v s.rounds)) form_then) may.1 quiet.1 (law v whole_then form_then s.rounds quiet.0)

pub happens_front : (ss later : List Stretch) (w : World) → MayHappen w (ss ++ later) → MayHappen w ss
happens_front [] later w may = tt
happens_front (s ∷ ss) later w may = (may.0, happens_front ss later (after_stretch s w) may.1)

module _ (s : Settings) (ids : List ℕ) (circuits : Provisioning) (f : Fibres) (may : MayStart s ids f) where
  abbrev from : World
  from = new_world s ids circuits f

  pub ready_then : (earlier : List Stretch) (last : Stretch) (more : List Stretch) → MayHappen from (earlier ++ last ∷ more)
      → EndQuietly from (earlier ++ last ∷ more) → IsReady (after_stretches earlier from)
  ready_then earlier last more happens quiet =
      ready_after earlier from (new_worlds_are_whole s ids circuits f may.ids_ok may.honest)
      (happens_front earlier (last ∷ more) from happens)
      (long_front earlier last more from may.ids_ok.enough (inl refl) quiet) (ready_new s ids circuits f)

  pub followed_new : RestoredSoon → IsFollowed from
  followed_new laws = laws.fresh s ids circuits f may

  pub followed_then : RestoredSoon → HasCircuits (layout_in (new_ring s ids circuits)) → (earlier : List Stretch) (last : Stretch)
      (more : List Stretch) → MayHappen from (earlier ++ last ∷ more) → EndQuietly from (earlier ++ last ∷ more)
      → IsFollowed (after_stretches earlier from)
  followed_then laws form earlier last more happens quiet =
      followed_front laws.windows earlier last more from (new_worlds_are_whole s ids circuits f may.ids_ok may.honest) form happens quiet
      (followed_new laws)

  -- ---- k rounds after the changes of a stretch

  module _ (form : HasCircuits (layout_in (new_ring s ids circuits))) (earlier : List Stretch) (last : Stretch) (k : ℕ)
      (happens : MayHappen from (earlier ++ stretch last.changes k ∷ [])) (ready : IsReady (after_stretches earlier from))
      (followed : IsFollowed (after_stretches earlier from)) where
    abbrev ring : Ring
    ring = ring_by s (length ids) circuits.circuits

    abbrev now : List Stretch
    now = earlier ++ stretch last.changes k ∷ []

    abbrev left : World
    left = after_stretches now from

    abbrev t : ℕ
    t = left.ring.rounds - 1

    abbrev requests : List ℕ
    requests = span_requests (length ids) (asked_in s.threshold s.wait (length ids) now t)

    abbrev begun : World
    begun = all_changed last.changes (after_stretches earlier from)

    abbrev Restored : Type 0
    Restored = IsRestored (clocks_by circuits.circuits now) left requests

    shows : Restored → ShowsWhatIsOwed from ring now
    unfolding report_of
    shows restored =
        let same : layout_of left ≡ layout_in (new_ring s ids circuits) = layout_stretches now from in
        let by = subst (λ (y : Layout). IsRestored (clocks_by y.circuits now) left requests) (sym same) restored in
        subst (λ (y : Layout). IsOwed (positions_of y) requests (happened now) y.circuits (ports_of (report_of 0 left.ring))) same
        (owed_now now left 0 requests (subst HasCircuits (sym same) form) by)

    many : 1 ≤ k → rounds_in now ≡ t + 1
    many some =
        let ran : left.ring.rounds ≡ 0 + rounds_in now = (left_stretches now from).rounds in
        let more : left.ring.rounds ≡ (after_stretches earlier from).ring.rounds + k =
        ap (λ (v : World). v.ring.rounds) (after_last earlier (stretch last.changes k) from)
        ∙ (left_stretch (stretch last.changes k) (after_stretches earlier from)).rounds in
        omega (arith, ran, more, some)

    layout_begun : layout_of begun ≡ layout_in (new_ring s ids circuits)
    layout_begun = layout_all last.changes (after_stretches earlier from) ∙ layout_stretches earlier from

    size_begun : length begun.ring.ids ≡ length ids
    size_begun = ap positions_of layout_begun

    size_left : length (run k begun).ring.ids ≡ length ids
    size_left = ap positions_of (layout_run begun k) ∙ size_begun

    whole_begun : 1 ≤ k → IsWhole begun
    whole_begun some = whole_v s ids circuits f earlier (stretch last.changes k) t may happens form (many some)

    -- what the ring comes to by itself follows from the history
    by_history : 1 ≤ k → 3 * length ids ≤ k → IsRestored (clocks_from begun) (run k begun) (span_requests_of (run k begun)) → Restored
    by_history some long restored =
        restored_by_history s ids circuits f earlier (stretch last.changes k) t may happens form (many some)
        (omega (arith, size_left, long)) restored

    form_begun : HasCircuits (layout_of begun)
    form_begun = subst HasCircuits (sym layout_begun) form

    restored_soon : RestoredSoon → IsLate (length ids) last.changes k → Restored
    restored_soon laws (inl (unslipped, long)) =
        by_history (omega (arith, long)) (omega (arith, long)) (laws.held begun (whole_begun (omega (arith, long))) form_begun
        (longest_hold last.changes)
        (held_by_all (longest_hold last.changes) last.changes (after_stretches earlier from) (omega arith)
        (held_for_none (longest_hold last.changes) (after_stretches earlier from) ready.free))
        (unslipped_all last.changes (after_stretches earlier from) unslipped ready.none)
        (followed_all laws.changes last.changes (after_stretches earlier from) followed) k (omega (arith, size_begun, long)))
    restored_soon laws (inr (inl (none, long, gone))) =
        by_history (omega (arith, long)) (omega (arith, long)) (laws.free begun (whole_begun (omega (arith, long))) form_begun
        (free_all last.changes (after_stretches earlier from) none ready.free) k (omega (arith, size_begun, long))
        (omega (arith, size_begun, gone)))
    restored_soon laws (inr (inr long)) =
        laws.stretches s ids circuits f earlier (stretch last.changes k) t may happens form long (many (omega (arith, long)))

    pub owed_soon : RestoredSoon → IsLate (length ids) last.changes k → ShowsWhatIsOwed from ring now
    owed_soon laws late = shows (restored_soon laws late)

    -- ---- a port of a joined circuit

    same_requests : 1 ≤ k → span_requests_of (run k begun) ≡ requests
    same_requests some = requests_last s ids circuits f earlier (stretch last.changes k) may happens t (many some)

    abbrev held_begun : AllHeldFor (longest_hold last.changes) begun
    held_begun =
        held_by_all (longest_hold last.changes) last.changes (after_stretches earlier from) (omega arith)
        (held_for_none (longest_hold last.changes) (after_stretches earlier from) ready.free)

    module _ (laws : RestoredSoon) (none : SlipNone last.changes) (index : ℕ) (c : Provisioned)
        (get : slice_get circuits.circuits index ≡ Some c) (e : End) where
      abbrev Joined : ℕ → List ℕ → Type 0
      Joined n rs =
          is_joined n (is_applied rs) (arc_of n c) ≡ true
          → 4 * n + longest_hold last.changes + 9 + hops n (is_applied rs) (arc_of n c) + 2 ≤ k
          → DeliversItsDue (clocks_from begun) (run k begun) (span_requests_of (run k begun)) c index e

      joined_begun : 1 ≤ k → Joined (length begun.ring.ids) (span_requests_of (run k begun))
      joined_begun some joined enough =
          (laws.ports begun (whole_begun some) form_begun (longest_hold last.changes) held_begun
          (unslipped_all last.changes (after_stretches earlier from) none ready.none)
          (followed_all laws.changes last.changes (after_stretches earlier from) followed)).joined k index c
          (ap (λ (y : Layout). slice_get y.circuits index) layout_begun ∙ get) e joined enough

      joined_now : 1 ≤ k → Joined (length ids) requests
      joined_now some = subst (λ n. Joined n requests) size_begun (subst (Joined (length begun.ring.ids)) (same_requests some) (joined_begun some))

      pub joined_owed : is_joined (length ids) (is_applied requests) (arc_of (length ids) c) ≡ true
          → 4 * length ids + 11 + hops (length ids) (is_applied requests) (arc_of (length ids) c) + longest_hold last.changes ≤ k
          → outlet_at left.ring (port_id index e) ≡ (owed_port (length ids) (is_applied requests) (happened now) t index c e).outlet
      joined_owed joined enough =
          let some : 1 ≤ k = omega (arith, enough) in
          let same : length left.ring.ids ≡ length ids = ap positions_of (layout_stretches now from) in
          port_by_history s ids circuits f earlier (stretch last.changes k) t may happens form (many some)
          (omega (arith, size_left, enough)) index c get e (joined_now some joined (omega (arith, enough)))
          ∙ ap (λ n. due_by_clocks n (is_applied requests) c e (clocks_by circuits.circuits now (port_id index (other_end e))) t) same
          ∙ due_told (length ids) (is_applied requests) circuits.circuits now index c e t get
          (offset_small circuits.circuits form.offsets index c get (other_end e))

      -- by the number of rounds of these stretches
      abbrev By : ℕ → Type 0
      By u =
          (let rs = span_requests (length ids) (asked_in s.threshold s.wait (length ids) now u) in
          is_joined (length ids) (is_applied rs) (arc_of (length ids) c) ≡ true
          → 4 * length ids + 11 + hops (length ids) (is_applied rs) (arc_of (length ids) c) + longest_hold last.changes ≤ k
          → outlet_at left.ring (port_id index e) ≡ (owed_port (length ids) (is_applied rs) (happened now) u index c e).outlet)

      pub joined_soon : By (rounds_in now - 1)
      joined_soon joined enough =
          let some : 1 ≤ k = omega (arith, enough) in
          let last_is : t ≡ rounds_in now - 1 = (let m = many some in omega arith) in
          subst By last_is joined_owed joined enough
