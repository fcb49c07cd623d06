-- A followed ring to which nothing happens but rounds is restored soon.
use Rattle.std.proofs.Common.{◌≡◌, ℕ, suc, ◌+◌, ◌-◌, ◌*◌, ◌≤◌, true, false, Some, List, length, ap, sym, ◌∙◌, subst}
use Rattle.std.proofs.Common.{arith, inl, inr}
use Rattle.std.specs.Prelude.{slice_get, nat_le}
use Rattle.std.proofs.lemmas.Bool.{cases_Bool}
use Rattle.sdh_circuits.specs.Provisioned.{Provisioned, arc_of}
use Rattle.sdh_circuits.specs.declared.End.{End}
use Rattle.sdh_restoration.specs.Applied.{is_applied}
use Rattle.sdh_restoration.specs.Routes.{hops}
use Rattle.sdh_ringmap.specs.Arcs.{is_joined, is_clear}
use Rattle.sdh_signal.specs.Laws.{RingsSettle}
use Rattle.sdh_signal.specs.Settled.{settled_states}
use Rattle.sdh_signal.proofs.Ways.{short}
use Rattle.sdh_node.specs.Node.{is_held}
use Rattle.sdh_node.specs.Stations.{adm}
use Rattle.sdh_rounds.proofs.Runs.{known_unsettles}
use Rattle.sdh_rounds.proofs.Terms.{terms}
use Rattle.sdh_node.specs.Rings.Held.{node_at, AtEach}
use Rattle.sdh_node.specs.Rings.Clocks.{clocks_from}
use Rattle.sdh_node.specs.Rings.Rounds.{World}
use Rattle.sdh_node.specs.Rings.Runs.{run}
use Rattle.sdh_laws.specs.Hearing.Laws.{IsWhole}
use Rattle.sdh_laws.proofs.hearing.Steady.{AllHeldFor, held_after, free_stays, none_waits_later}
use Rattle.sdh_laws.specs.Restoring.Laws.{NoControllerHeld}
use Rattle.sdh_laws.specs.Carrying.Windows.{Layout, layout_of, slots_of, HasCircuits, span_requests_of}
use Rattle.sdh_laws.specs.Carrying.Laws.{DeliversItsDue, IsRestored}
use Rattle.sdh_laws.proofs.carrying.Ways.{layout_run}
use Rattle.sdh_laws.specs.Converging.Steady.{IsUnslipped}
use Rattle.sdh_laws.proofs.converging.Runs.{run_more}
use Rattle.sdh_laws.specs.Restoring.Followed.{ArePortsOwedAtOnce, FollowedPortsAreOwedSoon, FollowedRingsAreRestoredSoon}
use Rattle.sdh_laws.specs.Restoring.Followed.{HeldFollowedRingsAreRestoredSoon, UnsettledFollowedRingsAreRestored}
use Rattle.sdh_laws.proofs.restoring.AtOnce.{FollowAtOnce, joined_at_once}
use Rattle.sdh_laws.proofs.restoring.Followed.{IsFollowing, AreNear, followed_is, run_following, near_later}
use Rattle.sdh_laws.proofs.restoring.Soon.{u, rs, requests_from, states_from, whole_u, at_rest, uncut, form_u, get_u, tells, delivers_by}
use Rattle.sdh_laws.proofs.restoring.Soon.{ids_u, parted_owed, clocks}

-- where no controller misses a turn from round f on, and no slip waits
module _ (law : RingsSettle) (w : World) (whole : IsWhole w) (form : HasCircuits (layout_of w)) (f base : ℕ)
    (free : (k : ℕ) → f ≤ k → AtEach (λ p n. is_held n ≡ false) (run k w).ring.nodes) (late : 4 * length w.ring.ids + f + 9 ≤ base)
    (unslipped : IsUnslipped w) (following : IsFollowing w) where
  open terms w use {n}

  slips : IsUnslipped (run base w)
  slips = none_waits_later w whole unslipped base

  abbrev start : World
  start = u law w whole form f base free late slips

  abbrev qs : List ℕ
  qs = rs law w whole form f base free late slips

  at_once : FollowAtOnce start
  at_once = record {
    follow = λ k. subst IsFollowing (sym (run_more w base k)) (run_following w whole form unslipped following (k + base));
    near =
        λ k. subst (AreNear 3) (sym (run_more w base k))
        (near_later w whole form unslipped following (k + base) (omega (arith, late)));
  }

  -- a port of a joined circuit
  module _ (index : ℕ) (c : Provisioned) (get : slice_get w.ring.circuits.circuits index ≡ Some c) (e : End) where
    abbrev Joined : ℕ → ℕ → Type 0
    Joined j size =
        is_joined size (is_applied qs) (arc_of size c) ≡ true → hops size (is_applied qs) (arc_of size c) + 1 ≤ j
        → DeliversItsDue (clocks_from w) (run (suc j) start) qs c index e

    joined_at : (j : ℕ) → Joined j n
    joined_at j =
        subst (Joined j) (ids_u law w whole form f base free late slips) (λ joined enough.
        delivers_by law w whole form f base free late slips index c get e j
        (joined_at_once start (whole_u law w whole form f base free late slips)
        (form_u law w whole form f base free late slips index c get e) qs
        (at_rest law w whole form f base free late slips) (uncut law w whole form f base free late slips) at_once index c
        (get_u law w whole form f base free late slips index c get e) e (clocks law w whole form f base free late slips index c get e)
        (tells law w whole form f base free late slips index c get e) j enough joined))

    abbrev JoinedBy : ℕ → List ℕ → Type 0
    JoinedBy k rs =
        is_joined n (is_applied rs) (arc_of n c) ≡ true → base + hops n (is_applied rs) (arc_of n c) + 2 ≤ k
        → DeliversItsDue (clocks_from w) (run k w) rs c index e

    joined_so : (k : ℕ) → JoinedBy k qs
    joined_so k joined enough =
        let j = k - base - 1 in
        let now : suc j + base ≡ k = omega (arith, enough) in
        let there : run (suc j) start ≡ run k w = run_more w base (suc j) ∙ ap (λ i. run i w) now in
        subst (λ v. DeliversItsDue (clocks_from w) v qs c index e) there (joined_at j joined (omega (arith, enough)))

    pub joined_owed : (k : ℕ) → JoinedBy k (span_requests_of (run k w))
    joined_owed k joined enough =
        subst (JoinedBy k) (sym (requests_from law w whole form f base free late slips k (omega (arith, late, enough)))) (joined_so k) joined
        enough

    -- every port, once AIS has come to those that are parted
    pub port_owed : (k : ℕ) → base + 2 * n ≤ k + 1 → DeliversItsDue (clocks_from w) (run k w) (span_requests_of (run k w)) c index e
    port_owed k enough =
        let applied = is_applied (span_requests_of (run k w)) in
        let s = short n applied (slots_of (layout_of w)) w.ring.circuits.circuits form index c get in
        let two = whole.placed.ids.enough in
        elim (cases_Bool (is_joined n applied (arc_of n c))) [
          | inl joined ↦ joined_owed k joined (elim (cases_Bool (is_clear n applied (arc_of n c))) [
            | inl t ↦ (let a = s.straight t in omega (arith, enough, two))
            | inr t ↦ (let a = s.around t in omega (arith, enough, two))
          ])
          | inr parted ↦ parted_owed law w whole form f base free late slips index c get e k parted (omega (arith, late, enough, two))
        ]

  pub owed_at_once : (away : ℕ) → f + 5 * n ≤ away → ArePortsOwedAtOnce w base away
  owed_at_once away long = record {
    joined = λ k index c get e. joined_owed index c get e k;
    parted = λ k index c get e other enough. parted_owed law w whole form f base free late slips index c get e k other (omega arith);
  }

  pub restored_at_once : (k : ℕ) → base + 2 * n ≤ k + 1 → IsRestored (clocks_from w) (run k w) (span_requests_of (run k w))
  restored_at_once k enough =
      let two = whole.placed.ids.enough in
      record {
        states =
            states_from law w whole form f base free late slips k (omega (arith, late, enough, two))
            ∙ ap settled_states (sym (requests_from law w whole form f base free late slips k (omega (arith, late, enough, two))));
        ports = λ index c get e. port_owed index c (ap (λ (l : Layout). slice_get l.circuits index) (sym (layout_run w k)) ∙ get) e k enough;
      }

-- once all held turns are over no controller is held
free_later : (w : World) → IsWhole w → (turns : ℕ) → AllHeldFor turns w → (k : ℕ) → turns ≤ k → NoControllerHeld (run k w)
free_later w whole turns held k late p h =
    let few = held_after w whole turns held k p h in
    ap (nat_le 1) (let none : (node_at (run k w).ring.nodes p).held ≡ 0 = omega arith in none)

pub followed_ports_are_owed_soon : RingsSettle → FollowedPortsAreOwedSoon
followed_ports_are_owed_soon law w whole form turns held unslipped followed =
    owed_at_once law w whole form turns (4 * length w.ring.ids + turns + 9) (free_later w whole turns held) (omega arith) unslipped
    (followed_is w followed)
    (5 * length w.ring.ids + turns) (omega arith)

pub following_restored : RingsSettle → (w : World) → IsWhole w → HasCircuits (layout_of w) → NoControllerHeld w → IsUnslipped w → IsFollowing w
    → (k : ℕ) → 6 * length w.ring.ids + 8 ≤ k → IsRestored (clocks_from w) (run k w) (span_requests_of (run k w))
following_restored law w whole form free unslipped following k enough =
    restored_at_once law w whole form 0 (4 * length w.ring.ids + 9) (λ k h. free_stays w whole free k) (omega arith) unslipped following k
    (omega arith)

pub followed_rings_are_restored_soon : RingsSettle → FollowedRingsAreRestoredSoon
followed_rings_are_restored_soon law w whole form free unslipped followed k enough =
    following_restored law w whole form free unslipped (followed_is w followed) k enough

pub held_followed_rings_are_restored_soon : RingsSettle → HeldFollowedRingsAreRestoredSoon
held_followed_rings_are_restored_soon law w whole form turns held unslipped followed k enough =
    restored_at_once law w whole form turns (4 * length w.ring.ids + turns + 9) (free_later w whole turns held) (omega arith) unslipped
    (followed_is w followed) k (omega arith)

pub unsettled_followed_rings_are_restored : RingsSettle → UnsettledFollowedRingsAreRestored
unsettled_followed_rings_are_restored law w left limit form unsettles whole free unslipped followed enough =
    subst (λ v. IsRestored (clocks_from w) v (span_requests_of v))
    (sym (known_unsettles adm w limit left (inl whole.paired.honest.honest) unsettles).1)
    (followed_rings_are_restored_soon law w whole form free unslipped followed limit enough)
