-- From a new ring on, through any stretches, the local requests are those of the histories.
use Rattle.std.proofs.Common.{◌≡◌, ℕ, zero, suc, ◌+◌, ◌-◌, ◌*◌, ◌<◌, ◌≤◌, List, [], ◌∷◌, length, refl, ap, sym, subst, ◌∙◌, arith, inl, inr}
use Rattle.std.proofs.lemmas.Bool.{cases_lt}
use Rattle.std.proofs.lemmas.List.{length-replicate}
use Rattle.sdh_ringmap.specs.declared.Side.{Side}
use Rattle.sdh_ringmap.specs.declared.Side.TheVariants.{West, East}
use Rattle.sdh_request.specs.declared.Command.{Command}
use Rattle.sdh_restoration.specs.History.{SideHistory, local_request}
use Rattle.sdh_circuits.specs.Provisioning.{Provisioning}
use Rattle.sdh_ringmap.specs.declared.terms.Condition.TheVariants.{Clear}
use Rattle.sdh_plant.specs.Fibres.{Fibres}
use Rattle.sdh_request.specs.declared.settings.Settings.{Settings}
use Rattle.sdh_node.specs.Receiving.{commanded_by}
use Rattle.sdh_node.specs.Node.{Node, new_node, at_receiving, held_for, slips_at, receiving_on}
use Rattle.sdh_node.specs.Rings.Held.{place_of_port, node_at}
use Rattle.sdh_node.specs.Rings.Rounds.{World, round}
use Rattle.sdh_node.specs.Rings.Runs.{run}
use Rattle.sdh_restoration.specs.Changes.{Change, Fibre, Order, Hold, Slip, Now, Stretch, rounds_in}
use Rattle.sdh_node.specs.Rings.Changes.{changed, all_changed, after_stretch, after_stretches, new_world}
use Rattle.sdh_node.specs.Rings.Laws.{IsChangeOf, AreChangesOf, MayHappen}
use Rattle.sdh_restoration.specs.Sides.{holding_in, new_holding, side_history}
use Rattle.sdh_node.specs.Rings.Sides.{holding_of, world_in, HasPositions}
use Rattle.sdh_node.proofs.RingLaws.Keeping.{length-new}
use Rattle.sdh_node.proofs.RingLaws.Histories.{holding_is, new_holds}
use Rattle.sdh_restoration.specs.Sides.{asked_in}
use Rattle.sdh_laws.specs.Hearing.Laws.{MayStart, AreTheHistorys, RequestsAreTheHistorys, IsWhole}
use Rattle.sdh_laws.proofs.hearing.Nodes.{count, one_more}
use Rattle.sdh_laws.proofs.hearing.Shown.{keeps_changed, keeps_left, shows_changed, shows_left}
use Rattle.sdh_laws.proofs.hearing.Changes.{each_new, each_at_place, new_worlds_are_whole, whole_changed, LeavesSides, held_leaves}
use Rattle.sdh_laws.proofs.hearing.Changes.{slips_leave, with_node}
use Rattle.sdh_laws.proofs.hearing.Staying.{world_low, world_high, world_later, world_after, left_in}
use Rattle.sdh_laws.proofs.hearing.Histories.{shown}
use Rattle.sdh_laws.proofs.hearing.Follows.{Matches, Tells, FollowsSide, Follows, turned}
use Rattle.sdh_ringmap.specs.Places.{position_of}
use Rattle.sdh_rounds.specs.Runs as any_run

-- ---- a new ring

module _ (s : Settings) (ids : List ℕ) (circuits : Provisioning) (f : Fibres) (may : MayStart s ids f) (hist : ℕ → Side → SideHistory) where
  abbrev node : ℕ → Node
  node p = new_node s ids circuits.circuits (position_of p)

  first_side : (p : ℕ) (d : Side) (h : SideHistory) → FollowsSide s h 0 (receiving_on d (node p))
  unfolding new_node
  first_side p West h = record {
    keeps = record { wait_is = refl; defect_is = refl; ended_is = refl };
    request = λ t e. absurd (omega arith);
  }
  first_side p East h = record {
    keeps = record { wait_is = refl; defect_is = refl; ended_is = refl };
    request = λ t e. absurd (omega arith);
  }

  follows_new : Follows s ids hist (new_world s ids circuits f)
  follows_new = record {
    settings_are = refl;
    ids_are = refl;
    whole = new_worlds_are_whole s ids circuits f may.ids_ok may.honest;
    keeps = λ d p h line some there. absurd (omega arith);
    sides =
        λ d. each_new (λ p n. FollowsSide s (hist p d) 0 (receiving_on d n)) s ids circuits.circuits (λ p low. first_side p d (hist p d));
    shows = λ d p h line some there. absurd (omega arith);
  }

-- ---- changes

side_commanded : (s : Settings) (h : SideHistory) (rounds : ℕ) (d e : Side) (c : Command) (n : Node)
    → FollowsSide s h rounds (receiving_on e n) → FollowsSide s h rounds (receiving_on e (at_receiving d (commanded_by c) n))
side_commanded s h rounds West West c n k = record {
  keeps = record {
    wait_is = k.keeps.wait_is;
    defect_is = k.keeps.defect_is;
    ended_is = k.keeps.ended_is;
  };
  request = k.request;
}
side_commanded s h rounds East East c n k = record {
  keeps = record {
    wait_is = k.keeps.wait_is;
    defect_is = k.keeps.defect_is;
    ended_is = k.keeps.ended_is;
  };
  request = k.request;
}
side_commanded s h rounds West East c n k = k
side_commanded s h rounds East West c n k = k

module _ (s : Settings) (ids : List ℕ) (hist : ℕ → Side → SideHistory) where
  -- a change that leaves all sides of a node
  follows_left : (f : Node → Node) → LeavesSides f → (p : ℕ) (w : World) → IsWhole (with_node p f w) → Follows s ids hist w
      → Follows s ids hist (with_node p f w)
  follows_left f leaves p w whole k =
      let ns = w.ring.nodes in
      record {
        settings_are = k.settings_are;
        ids_are = k.ids_are;
        whole = whole;
        keeps = keeps_left f leaves p w k.keeps;
        sides =
            λ e. each_at_place (λ q n. FollowsSide w.ring.settings (hist q e) w.ring.rounds (receiving_on e n)) f
            (λ q n h. subst (FollowsSide w.ring.settings (hist q e) w.ring.rounds) (sym (leaves.receiving e n)) h) p ns (k.sides e);
        shows = shows_left (λ q e. shown (hist q e) w.ring.rounds) f leaves p w k.shows;
      }

  follows_changed : (c : Change) (w : World) → IsChangeOf w c → Follows s ids hist w → Follows s ids hist (changed c w)
  unfolding changed
  follows_changed (Fibre p d c) w may k =
      record {
        settings_are = k.settings_are;
        ids_are = k.ids_are;
        whole = whole_changed (Fibre p d c) w may k.whole;
        keeps = k.keeps;
        sides = k.sides;
        shows = k.shows;
      }
  follows_changed (Order p d c) w may k =
      let f = at_receiving d (commanded_by c) in
      let ns = w.ring.nodes in
      let rate = w.ring.settings.rate in
      record {
        settings_are = k.settings_are;
        ids_are = k.ids_are;
        whole = whole_changed (Order p d c) w tt k.whole;
        keeps = keeps_changed (Order p d c) w k.keeps;
        sides =
            λ e. each_at_place (λ q n. FollowsSide w.ring.settings (hist q e) w.ring.rounds (receiving_on e n)) f
            (λ q n h. side_commanded w.ring.settings (hist q e) w.ring.rounds d e c n h) p ns (k.sides e);
        shows = shows_changed (λ q e. shown (hist q e) w.ring.rounds) (Order p d c) w k.shows;
      }
  follows_changed (Hold p turns) w may k =
      follows_left (held_for turns) (held_leaves turns) p w (whole_changed (Hold p turns) w may k.whole) k
  follows_changed (Slip id turn count) w may k =
      follows_left (slips_at id turn count) (slips_leave id turn count) (place_of_port w.ring id) w
      (whole_changed (Slip id turn count) w may k.whole) k
  follows_changed (Now t) w may k = record {
    settings_are = k.settings_are;
    ids_are = k.ids_are;
    whole = whole_changed (Now t) w tt k.whole;
    keeps = k.keeps;
    sides = k.sides;
    shows = k.shows;
  }

  follows_all : (cs : List Change) (w : World) → AreChangesOf w cs → Follows s ids hist w → Follows s ids hist (all_changed cs w)
  follows_all [] w may k = k
  follows_all (c ∷ cs) w may k = follows_all cs (changed c w) may.1 (follows_changed c w may.0 k)

  -- ---- rounds

  module _ (least : 1 ≤ s.threshold) where
    one_round : (w : World) → Follows s ids hist w → Tells hist w → Follows s ids hist (round w)
    one_round w k tells = turned s ids hist w k tells (subst (λ (y : Settings). 1 ≤ y.threshold) (sym k.settings_are) least)

    follows_run : (k : ℕ) (w : World) → Follows s ids hist w → ((j : ℕ) → j < k → Tells hist (run j w)) → Follows s ids hist (run k w)
    unfolding any_run.run
    follows_run zero w is tells = is
    follows_run (suc k) w is tells = one_round (run k w) (follows_run k w is (λ j h. tells j (omega arith))) (tells k (omega arith))

    -- ---- stretches

    follows_in : (ss : List Stretch) (w : World) (t : ℕ) → Follows s ids hist w → MayHappen w ss
        → ((j : ℕ) → j < rounds_in ss → Tells hist (world_in ss w j)) → t ≤ rounds_in ss → Follows s ids hist (world_in ss w t)
    follows_in [] w t is may tells h = is
    follows_in (st ∷ ss) w t is may tells h =
        let begin : Follows s ids hist (all_changed st.changes w) = follows_all st.changes w may.0 is in
        let within : (j : ℕ) → j < st.rounds → Tells hist (run j (all_changed st.changes w)) =
        λ j low. subst (Tells hist) (world_low st ss w j low) (tells j (omega arith)) in
        elim (cases_lt t st.rounds) [
          | inl low ↦ subst (Follows s ids hist) (sym (world_low st ss w t low))
              (follows_run t (all_changed st.changes w) begin (λ j less. within j (omega arith)))
          | inr high ↦ subst (Follows s ids hist) (sym (world_high st ss w t high))
              (follows_in ss (after_stretch st w) (t - st.rounds) (follows_run st.rounds (all_changed st.changes w) begin within) may.1
              (λ j low. subst (Tells hist) (world_later st ss w j) (tells (st.rounds + j) (omega arith))) (omega arith))
        ]

-- ---- the law

pub fits_new : (s : Settings) (ids : List ℕ) (circuits : Provisioning) (f : Fibres) → HasPositions (length ids) (new_world s ids circuits f)
fits_new s ids circuits f = record {
  conditions = length-replicate (2 * length ids) Clear;
  nodes = length-new s ids circuits.circuits (length ids);
}

-- round t of a new ring
pub ran_at : (s : Settings) (ids : List ℕ) (circuits : Provisioning) (f : Fibres) (ss : List Stretch) (t : ℕ) → t ≤ rounds_in ss
    → (world_in ss (new_world s ids circuits f) t).ring.rounds ≡ t
ran_at s ids circuits f ss t h =
    (left_in ss (new_world s ids circuits f) t h).rounds ∙ (let e : 0 + t ≡ t = omega arith in e)

module _ (s : Settings) (ids : List ℕ) (circuits : Provisioning) (f : Fibres) (ss : List Stretch) (may : MayStart s ids f)
    (happen : MayHappen (new_world s ids circuits f) ss) where
  abbrev n : ℕ
  n = length ids

  abbrev w : World
  w = new_world s ids circuits f

  abbrev hist : ℕ → Side → SideHistory
  hist p d = side_history n p d ss

  by_holding : (p : ℕ) (d : Side) (t : ℕ) → Matches (hist p d) t (holding_in n p d ss new_holding t)
  by_holding p d t = record { cut = refl; degraded = refl; command = refl; moment = refl }

  matches : (p : ℕ) (d : Side) (t : ℕ) → p < n → Matches (hist p d) t (holding_of n p d (world_in ss w t))
  matches p d t low =
      subst (Matches (hist p d) t) (sym (holding_is n p d ss w t (fits_new s ids circuits f) low
      ∙ ap (λ h. holding_in n p d ss h t) (new_holds s ids circuits s.rate f p d low))) (by_holding p d t)

  tells : (t : ℕ) → t < rounds_in ss → Tells hist (world_in ss w t)
  tells t h p d low =
      let same = (left_in ss w t (omega arith)).ids in
      let ran : t ≡ (world_in ss w t).ring.rounds = sym (ran_at s ids circuits f ss t (omega arith)) in
      subst (λ m. Matches (hist p d) m (holding_of (length (world_in ss w t).ring.ids) p d (world_in ss w t))) ran
      (subst (λ (is : List ℕ). Matches (hist p d) t (holding_of (length is) p d (world_in ss w t))) (sym same)
      (matches p d t (subst (λ (is : List ℕ). p < length is) same low)))

  follows_at : (t : ℕ) → t ≤ rounds_in ss → Follows s ids hist (world_in ss w t)
  follows_at t h = follows_in s ids hist may.least ss w t (follows_new s ids circuits f may hist) happen tells h

  -- what a side asked for in the last round
  request_at : (v : World) (p : ℕ) (d : Side) (t : ℕ) → Follows s ids hist v → p < n → v.ring.rounds ≡ t + 1
      → (receiving_on d (node_at v.ring.nodes p)).request ≡ asked_in s.threshold s.wait n ss t p d
  request_at v p d t k low ran =
      let size : length v.ring.ids ≡ n = ap length k.ids_are in
      let inside : p < length v.ring.nodes = omega (arith, count v k.whole.placed) in
      (k.sides d p inside).request t (omega arith) ∙ ap (λ (y : Settings). local_request y.threshold y.wait (hist p d) t) k.settings_are

  pub requests_are : AreTheHistorys s n ss w
  requests_are = record {
    each =
        λ p d t low h. request_at (round (world_in ss w t)) p d t
        (one_round s ids hist may.least (world_in ss w t) (follows_at t (omega arith)) (tells t h)) low
        (one_more (world_in ss w t) ∙ ap (λ k. k + 1) (ran_at s ids circuits f ss t (omega arith)));
    last =
        λ p d t low ran. request_at (after_stretches ss w) p d t
        (subst (Follows s ids hist) (world_after ss w) (follows_at (rounds_in ss) (omega arith))) low
        (ap (λ (v : World). v.ring.rounds) (sym (world_after ss w)) ∙ ran_at s ids circuits f ss (rounds_in ss) (omega arith) ∙ ran);
  }

pub requests_are_the_historys : RequestsAreTheHistorys
requests_are_the_historys s ids circuits f ss may happen = requests_are s ids circuits f ss may happen
