-- A new ring is followed, and stays so through stretches of changes that slip no port and hold no controller.
use Rattle.std.proofs.Common.{◌≡◌, ℕ, zero, suc, ◌+◌, ◌-◌, ◌≤◌, ◌⊎◌, Bool, true, false, List, [], ◌∷◌, ◌++◌, length, get_or, replicate, Option, None, refl}
use Rattle.std.proofs.Common.{ap, sym, ◌∙◌, subst, arith, inl, inr}
use Rattle.std.specs.Prelude.{All}
use Rattle.std.proofs.lemmas.Bool.{cases_lt}
use Rattle.std.proofs.lemmas.List.{get_or-replicate}
use Rattle.sdh_ringmap.specs.Places.{neighbour, opposite, position_of}
use Rattle.sdh_ringmap.specs.Rates.{n_of}
use Rattle.sdh_ringmap.specs.declared.Side.{Side}
use Rattle.sdh_ringmap.specs.declared.Side.TheVariants.{West, East}
use Rattle.sdh_circuits.specs.Provisioned.{Provisioned}
use Rattle.sdh_ringmap.specs.Fibres.{is_cut}
use Rattle.sdh_pointer.specs.Reading.{start}
use Rattle.sdh_pointer.specs.declared.reading.Reading.{Reading}
use Rattle.sdh_restoration.specs.Changes.{Change, Fibre, Order, Hold, Slip, Now, Stretch}
use Rattle.sdh_request.specs.declared.settings.Settings.{Settings}
use Rattle.sdh_signal.specs.Laws.{RingsSettle}
use Rattle.sdh_node.specs.Receiving.{commanded_by}
use Rattle.sdh_node.specs.Node.{Node, new_node, receiving_on, sending_on, at_receiving, held_for, slips_at, is_held}
use Rattle.sdh_node.specs.Rings.Changes.{changed, all_changed, after_stretch, after_stretches, new_world}
use Rattle.sdh_node.specs.Rings.Held.{node_at, at_place, place_of_port}
use Rattle.sdh_node.specs.Rings.Laws.{IsChangeOf, AreChangesOf, MayHappen}
use Rattle.sdh_node.specs.Rings.Rounds.{World, round}
use Rattle.sdh_node.specs.Rings.Runs.{run}
use Rattle.sdh_node.specs.Rings.Sides.{condition_to}
use Rattle.sdh_node.proofs.RingLaws.Histories.{length-placed}
use Rattle.sdh_laws.specs.Hearing.Laws.{IsWhole, NoneWait}
use Rattle.sdh_laws.proofs.hearing.Changes.{each_at_place, each_new, readings_commanded, sending_commanded, held_leaves, slips_leave, whole_changed}
use Rattle.sdh_laws.proofs.hearing.Changes.{new_worlds_are_whole}
use Rattle.sdh_laws.proofs.hearing.Requests.{last_of, earlier_of}
use Rattle.sdh_laws.proofs.hearing.Nodes.{one_more}
use Rattle.sdh_laws.proofs.hearing.Rounds.{neighbour_inside, whole_round}
use Rattle.sdh_laws.proofs.hearing.Staying.{left_changed}
use Rattle.sdh_laws.proofs.hearing.Steady.{free_stays, none_waits_later}
use Rattle.sdh_laws.specs.Carrying.Windows.{layout_of, positions_of, HasCircuits}
use Rattle.sdh_laws.proofs.carrying.Settles.{v, u, layout_v, restored_by_history, layout_changed}
use Rattle.sdh_laws.proofs.carrying.Ways.{layout_run}
use Rattle.sdh_laws.specs.Converging.Steady.{IsUnslipped}
use Rattle.sdh_laws.proofs.converging.HealthySignals.{new_unslipped}
use Rattle.sdh_laws.specs.Restoring.Laws.{NoControllerHeld}
use Rattle.sdh_laws.specs.Restoring.Followed.{Follows, pointer_word_on, IsFollowed, NewRingsAreFollowed, ChangesKeepFollowed, IsPlainChange, LeavesFibres, FibresWait}
use Rattle.sdh_laws.specs.Restoring.Followed.{PlainStretchesAreRestoredSoon}
use Rattle.sdh_laws.proofs.restoring.Following.{CountsOnes}
use Rattle.sdh_laws.proofs.restoring.Followed.{reading_at, state_on, ones_first, moved, HoldsOfAll, FollowsOver, IsFollowing, followed_is, AreCounting}
use Rattle.sdh_laws.proofs.restoring.Followed.{counting_none, followed_from, round_following, round_counting}
use Rattle.sdh_laws.proofs.restoring.SoonAtOnce.{following_restored}
use Rattle.sdh_rounds.specs.Runs as any_run

-- ---- a new ring

module _ (s : Settings) (ids : List ℕ) (circuits : List Provisioned) (p : ℕ) where
  abbrev one : Node
  one = new_node s ids circuits (position_of p)

  new_readings : (d : Side) → (receiving_on d one).readings ≡ replicate (n_of s.rate) start
  unfolding new_node
  new_readings West = refl
  new_readings East = refl

  new_generators : (d : Side) → (sending_on d one).generators ≡ replicate (n_of s.rate) None
  unfolding new_node
  new_generators West = refl
  new_generators East = refl

  new_free : is_held one ≡ false
  unfolding new_node
  new_free = refl

-- what follows at first: nothing has been read, and ones come
first_follows : Follows start None 65535
first_follows = record {
  sound = record { small = λ e. cc; few = omega arith; kept = λ e. cc; sent = refl };
  value = λ v e. absurd (cc);
}

pub new_rings_are_followed : NewRingsAreFollowed
new_rings_are_followed s ids circuits f may p d i h few =
    let cs = circuits.circuits in
    let begun = new_world s ids circuits f in
    let whole = new_worlds_are_whole s ids circuits f may.ids_ok may.honest in
    let q = neighbour (length ids) p d in
    let e = opposite d in
    moved Follows (reading_at begun p d i) start (state_on begun q e i) None (pointer_word_on begun q e (i + 1)) 65535
    (ap (λ rs. get_or rs i start)
    (each_new (λ p m. (d : Side) → (receiving_on d m).readings ≡ replicate (n_of s.rate) start) s ids cs
    (λ p low. new_readings s ids cs p) p h d) ∙ get_or-replicate (n_of s.rate) i start start few)
    (ap (λ gs. get_or gs i None)
    (each_new (λ p m. (d : Side) → (sending_on d m).generators ≡ replicate (n_of s.rate) None) s ids cs
    (λ p low. new_generators s ids cs p) q (neighbour_inside begun whole p d) e) ∙ get_or-replicate (n_of s.rate) i None None few)
    (ones_first begun whole p d h refl (i + 1)) first_follows

-- ---- changes

-- what a change of one node leaves of each stays of all
kept_at_place : {X : Type 0} (g : Node → X) (f : Node → Node) → ((n : Node) → g (f n) ≡ g n) → (p : ℕ) (ns : List Node) (q : ℕ)
    → g (node_at (at_place p f ns) q) ≡ g (node_at ns q)
kept_at_place g f keep p [] q = refl
kept_at_place g f keep zero (n ∷ ns) zero = keep n
kept_at_place g f keep zero (n ∷ ns) (suc q) = refl
kept_at_place g f keep (suc p) (n ∷ ns) zero = refl
kept_at_place g f keep (suc p) (n ∷ ns) (suc q) = kept_at_place g f keep p ns q

-- a change of one node that leaves its interpreters and generators
-- what holds of all interpreters, by what they keep, their generators, and whether the fibres between them are cut
module _ (P : Bool → Reading → Option ℕ → ℕ → Type 0) (w : World) (all : HoldsOfAll w P) (at : ℕ) (f : Node → Node)
    (reads : (d : Side) (n : Node) → (receiving_on d (f n)).readings ≡ (receiving_on d n).readings)
    (sends : (d : Side) (n : Node) → (sending_on d (f n)).generators ≡ (sending_on d n).generators) where
  abbrev after : World
  after = record w { ring = record w.ring { nodes = at_place at f w.ring.nodes } }

  node_changed : HoldsOfAll after P
  node_changed p d i h few =
      let q = neighbour (length w.ring.ids) p d in
      let e = opposite d in
      moved (P (is_cut (condition_to w p d))) (reading_at after p d i) (reading_at w p d i) (state_on after q e i) (state_on w q e i)
      (pointer_word_on after q e (i + 1)) (pointer_word_on w q e (i + 1))
      (ap (λ rs. get_or rs i start) (kept_at_place (λ n. (receiving_on d n).readings) f (reads d) at w.ring.nodes p))
      (ap (λ gs. get_or gs i None) (kept_at_place (λ n. (sending_on e n).generators) f (sends e) at w.ring.nodes q))
      refl (all p d i (omega (arith, length-placed f at w.ring.nodes)) few)

-- a change that concerns no fibre keeps it
kept_changed : (P : Bool → Reading → Option ℕ → ℕ → Type 0) (w : World) (c : Change) → LeavesFibres c → HoldsOfAll w P
    → HoldsOfAll (changed c w) P
unfolding changed
kept_changed P w (Fibre p d condition) leaves all = absurd leaves
kept_changed P w (Order p d c) leaves all =
    node_changed P w all p (at_receiving d (commanded_by c)) (λ e n. readings_commanded d e c n)
    (λ e n. ap (λ s. s.generators) (sending_commanded d e c n))
kept_changed P w (Hold p turns) leaves all =
    node_changed P w all p (held_for turns) (λ e n. ap (λ r. r.readings) ((held_leaves turns).receiving e n))
    (λ e n. ap (λ s. s.generators) ((held_leaves turns).sending e n))
kept_changed P w (Slip id turn more) leaves all =
    node_changed P w all (place_of_port w.ring id) (slips_at id turn more)
    (λ e n. ap (λ r. r.readings) ((slips_leave id turn more).receiving e n))
    (λ e n. ap (λ s. s.generators) ((slips_leave id turn more).sending e n))
kept_changed P w (Now t) leaves all = λ q e i h few. all q e i h few

pub changes_keep_followed : ChangesKeepFollowed
unfolding changed
changes_keep_followed w (Fibre p d condition) f = λ q e i h few. f q e i h few
changes_keep_followed w (Order p d c) f = kept_changed (λ cut. Follows) w (Order p d c) tt f
changes_keep_followed w (Hold p turns) f = kept_changed (λ cut. Follows) w (Hold p turns) tt f
changes_keep_followed w (Slip id turn more) f = kept_changed (λ cut. Follows) w (Slip id turn more) tt f
changes_keep_followed w (Now t) f = kept_changed (λ cut. Follows) w (Now t) tt f

-- ---- plain changes

-- A ring in which no slip waits and no controller is held, a number of rounds after the last change of a fibre.
-- Interpreters follow where their fibres aren't cut, and have read ones in all these rounds but one where they are.
pub record IsFine (since : ℕ) (w : World) : Type 0 where
  pub whole : IsWhole w
  pub circuits : HasCircuits (layout_of w)
  pub free : NoControllerHeld w
  pub unslipped : IsUnslipped w
  pub ran : since ≤ w.ring.rounds
  pub following : IsFollowing w
  pub counting : AreCounting (since - 1) w
  pub fresh : since ≡ 0 → IsFollowed w

free_changed : (w : World) (c : Change) → IsPlainChange c → NoControllerHeld w → NoControllerHeld (changed c w)
unfolding changed
free_changed w (Fibre p d condition) plain free = free
free_changed w (Order p d c) plain free =
    each_at_place (λ q n. is_held n ≡ false) (at_receiving d (commanded_by c)) (λ q n h. h) p w.ring.nodes free
free_changed w (Hold p turns) plain free = absurd plain
free_changed w (Slip id turn count) plain free = absurd plain
free_changed w (Now t) plain free = free

unslipped_changed : (w : World) (c : Change) → IsPlainChange c → IsUnslipped w → IsUnslipped (changed c w)
unfolding changed
unslipped_changed w (Fibre p d condition) plain none = none
unslipped_changed w (Order p d c) plain none =
    each_at_place (λ q n. NoneWait n.ports) (at_receiving d (commanded_by c)) (λ q n h. h) p w.ring.nodes none
unslipped_changed w (Hold p turns) plain none = absurd plain
unslipped_changed w (Slip id turn count) plain none = absurd plain
unslipped_changed w (Now t) plain none = none

-- four rounds after a change of a fibre, or at its moment, all interpreters follow
follow_then : (since : ℕ) (w : World) → (since ≡ 0) ⊎ (4 ≤ since) → IsFine since w → IsFollowed w
follow_then since w (inl none) is = is.fresh none
follow_then since w (inr late) is = followed_from (since - 1) w (omega arith) is.following is.counting

-- a change of any kind
fine_changed : (w : World) (c : Change) → IsPlainChange c → IsChangeOf w c → IsFine 0 w → IsFine 0 (changed c w)
fine_changed w c plain may is =
    let followed = changes_keep_followed w c (is.fresh refl) in
    record {
      whole = whole_changed c w may is.whole;
      circuits = subst HasCircuits (sym (layout_changed c w)) is.circuits;
      free = free_changed w c plain is.free;
      unslipped = unslipped_changed w c plain is.unslipped;
      ran = omega arith;
      following = followed_is (changed c w) followed;
      counting = counting_none (changed c w);
      fresh = λ none. followed;
    }

fine_all : (cs : List Change) (w : World) → All IsPlainChange cs → AreChangesOf w cs → IsFine 0 w → IsFine 0 (all_changed cs w)
fine_all [] w plain may is = is
fine_all (c ∷ cs) w plain may is =
    fine_all cs (changed c w) (λ k d h. plain (suc k) d (omega arith)) may.1 (fine_changed w c (plain 0 c (omega arith)) may.0 is)

-- a change that concerns no fibre
fine_beside : (since : ℕ) (w : World) (c : Change) → IsPlainChange c → LeavesFibres c → IsChangeOf w c → IsFine since w
    → IsFine since (changed c w)
fine_beside since w c plain leaves may is = record {
  whole = whole_changed c w may is.whole;
  circuits = subst HasCircuits (sym (layout_changed c w)) is.circuits;
  free = free_changed w c plain is.free;
  unslipped = unslipped_changed w c plain is.unslipped;
  ran = (let left = (left_changed c w).rounds in let ran = is.ran in omega arith);
  following = kept_changed FollowsOver w c leaves is.following;
  counting = kept_changed (λ cut r s word. cut ≡ true → CountsOnes (since - 1) r) w c leaves is.counting;
  fresh = λ none. changes_keep_followed w c (is.fresh none);
}

fine_all_beside : (since : ℕ) (cs : List Change) (w : World) → All IsPlainChange cs → All LeavesFibres cs → AreChangesOf w cs
    → IsFine since w → IsFine since (all_changed cs w)
fine_all_beside since [] w plain leaves may is = is
fine_all_beside since (c ∷ cs) w plain leaves may is =
    fine_all_beside since cs (changed c w) (λ k d h. plain (suc k) d (omega arith)) (λ k d h. leaves (suc k) d (omega arith)) may.1
    (fine_beside since w c (plain 0 c (omega arith)) (leaves 0 c (omega arith)) may.0 is)

fine_round : (since : ℕ) (w : World) → IsFine since w → IsFine (suc since) (round w)
unfolding any_run.run
fine_round since w is = record {
  whole = whole_round w is.whole;
  circuits = subst HasCircuits (sym (layout_run w 1)) is.circuits;
  free = free_stays w is.whole is.free 1;
  unslipped = none_waits_later w is.whole is.unslipped 1;
  ran = (let left = one_more w in let ran = is.ran in omega arith);
  following = round_following w is.whole is.circuits is.unslipped is.following;
  counting = elim (cases_lt 0 since) [
    | inl some ↦ (
        let ran = is.ran in
        subst (λ j. AreCounting j (round w)) {x = suc (since - 1)} {y = suc since - 1} (omega arith)
        (round_counting w is.whole is.circuits is.unslipped is.following (since - 1) (omega arith) is.counting))
    | inr none ↦ subst (λ j. AreCounting j (round w)) {x = 0} {y = suc since - 1} (omega arith) (counting_none (round w))
  ];
  fresh = λ none. absurd (omega arith);
}

fine_run : (since k : ℕ) (w : World) → IsFine since w → IsFine (since + k) (run k w)
unfolding any_run.run
fine_run since zero w is = subst (λ j. IsFine j w) {x = since} {y = since + zero} (omega arith) is
fine_run since (suc k) w is =
    subst (λ j. IsFine j (round (run k w))) {x = suc (since + k)} {y = since + suc k} (omega arith)
    (fine_round (since + k) (run k w) (fine_run since k w is))

-- a moment at which fibres may change
fresh_then : (since : ℕ) (w : World) → (since ≡ 0) ⊎ (4 ≤ since) → IsFine since w → IsFine 0 w
fresh_then since w wait is = record {
  whole = is.whole;
  circuits = is.circuits;
  free = is.free;
  unslipped = is.unslipped;
  ran = omega arith;
  following = is.following;
  counting = counting_none w;
  fresh = λ none. follow_then since w wait is;
}

-- the changes of a stretch
abbrev Waits : ℕ → List Change → Type 0
Waits since cs = All LeavesFibres cs ⊎ ((since ≡ 0) ⊎ (4 ≤ since))

abbrev since_after : (since : ℕ) (cs : List Change) → Waits since cs → ℕ
since_after since cs (inl leaves) = since
since_after since cs (inr wait) = 0

fine_then : (since : ℕ) (s : Stretch) (w : World) (wait : Waits since s.changes) → All IsPlainChange s.changes → AreChangesOf w s.changes
    → IsFine since w → IsFine (since_after since s.changes wait) (all_changed s.changes w)
fine_then since s w (inl leaves) plain may is = fine_all_beside since s.changes w plain leaves may is
fine_then since s w (inr wait) plain may is = fine_all s.changes w plain may (fresh_then since w wait is)

-- before the last of some stretches
abbrev Plain : List Stretch → Type 0
Plain ss = All (λ (x : Stretch). All IsPlainChange x.changes) ss

record FineBefore (last : Stretch) (w : World) : Type 0 where
  since : ℕ
  fine : IsFine since w
  wait : Waits since last.changes

fine_stretches : (since : ℕ) (ss : List Stretch) (last : Stretch) (w : World) → Plain (ss ++ last ∷ []) → FibresWait since (ss ++ last ∷ [])
    → MayHappen w ss → IsFine since w → FineBefore last (after_stretches ss w)
fine_stretches since [] last w plain (inl wait) may is = record { since = since; fine = is; wait = inl wait.0 }
fine_stretches since [] last w plain (inr wait) may is = record { since = since; fine = is; wait = inr wait.0 }
fine_stretches since (s ∷ ss) last w plain (inl wait) may is =
    fine_stretches (since + s.rounds) ss last (after_stretch s w) (λ k d h. plain (suc k) d (omega arith)) wait.1 may.1
    (fine_run since s.rounds (all_changed s.changes w) (fine_then since s w (inl wait.0) (plain 0 s (omega arith)) may.0 is))
fine_stretches since (s ∷ ss) last w plain (inr wait) may is =
    fine_stretches s.rounds ss last (after_stretch s w) (λ k d h. plain (suc k) d (omega arith)) wait.1 may.1
    (subst (λ j. IsFine j (after_stretch s w)) {x = 0 + s.rounds} {y = s.rounds} (omega arith)
    (fine_run 0 s.rounds (all_changed s.changes w) (fine_then since s w (inr wait.0) (plain 0 s (omega arith)) may.0 is)))

-- ---- the last of some stretches

plain_last : (ss : List Stretch) (s : Stretch) → Plain (ss ++ s ∷ []) → All IsPlainChange s.changes
plain_last [] s all = all 0 s (omega arith)
plain_last (r ∷ ss) s all = plain_last ss s (λ k d h. all (suc k) d (omega arith))

pub plain_stretches_are_restored_soon : RingsSettle → PlainStretchesAreRestoredSoon
plain_stretches_are_restored_soon law s ids circuits f earlier last t may happen form plain wait long many =
    let begun = new_world s ids circuits f in
    let from = v s ids circuits f earlier last t may happen form many in
    let layout = layout_v s ids circuits f earlier last t may happen form many in
    let same : length from.ring.ids ≡ length ids = ap positions_of layout in
    let left : length (u s ids circuits f earlier last t may happen form many).ring.ids ≡ length ids =
    ap positions_of (layout_run from last.rounds) ∙ same in
    let first : IsFine 0 begun = record {
      whole = new_worlds_are_whole s ids circuits f may.ids_ok may.honest;
      circuits = form;
      free = each_new (λ p m. is_held m ≡ false) s ids circuits.circuits (λ p low. new_free s ids circuits.circuits p);
      unslipped = new_unslipped s ids circuits f may;
      ran = omega arith;
      following = followed_is begun (new_rings_are_followed s ids circuits f may);
      counting = counting_none begun;
      fresh = λ none. new_rings_are_followed s ids circuits f may;
    } in
    let before = fine_stretches 0 earlier last begun plain wait (earlier_of earlier last begun happen) first in
    let is = fine_then before.since last (after_stretches earlier begun) before.wait (plain_last earlier last plain)
    (last_of earlier last begun happen) before.fine in
    restored_by_history s ids circuits f earlier last t may happen form many (omega (arith, left, long))
    (following_restored law from is.whole is.circuits is.free is.unslipped is.following last.rounds (omega (arith, same, long)))
