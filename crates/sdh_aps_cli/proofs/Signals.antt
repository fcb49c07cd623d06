-- A ring over honest fibres shows what the ring of signals does, by the script alone.
use Rattle.std.proofs.Common.{◌≡◌, ℕ, zero, suc, ◌+◌, ◌-◌, ◌<◌, ◌≤◌, Bool, false, List, [], ◌∷◌, ◌++◌, length, get_or, map}
use Rattle.std.proofs.Common.{refl, ap, ap₂, sym, subst, ◌∙◌, arith, inl, inr}
use Rattle.std.specs.Prelude.{◌==◌, ◌||◌, not, nat_le, if◌then◌else◌}
use Rattle.std.specs.List.{flat_map}
use Rattle.std.proofs.lemmas.Bool.{cases_lt, cases_Bool, eq-eqb, ne_eqb}
use Rattle.std.proofs.lemmas.List.{get_or-map}
use Rattle.sdh_basics.specs.Cells.{cells}
use Rattle.sdh_basics.proofs.CellsLaws.{cells-zero, get_or-cells}
use Rattle.sdh_ringmap.specs.declared.Side.{Side}
use Rattle.sdh_ringmap.specs.declared.Side.TheVariants.{West, East}
use Rattle.sdh_ringmap.specs.Places.{position_of}
use Rattle.sdh_ringmap.specs.Fibres.{fibre_to, is_cut}
use Rattle.sdh_circuits.specs.Provisioning.{Provisioning}
use Rattle.sdh_request.specs.declared.settings.Settings.{Settings}
use Rattle.sdh_plant.specs.Fibres.{Fibres}
use Rattle.sdh_plant.specs.Arrivals.{condition_of}
use Rattle.sdh_nodestate.specs.declared.NodeState.TheVariants as state
use Rattle.sdh_nodestate.specs.Words.{first_words}
use Rattle.sdh_signal.specs.Signals as signal
use Rattle.sdh_signal.specs.Signals.{Signals, no_filters, no_needs, unsaid, state_in, words_in, heard_through}
use Rattle.sdh_signal.specs.SignalRing as signal_ring
use Rattle.sdh_node.specs.Crossing.{is_failed}
use Rattle.sdh_node.specs.Node.{Node, new_node, receiving_on, is_held, sent_of, needed}
use Rattle.sdh_node.specs.Rings.Held.{nowhere, node_at}
use Rattle.sdh_node.specs.Rings.Rounds.{World, round}
use Rattle.sdh_node.specs.Rings.Changes.{all_changed, after_stretch, new_world}
use Rattle.sdh_node.specs.Rings.Laws.{MayHappen}
use Rattle.sdh_node.specs.Rings.Sides.{holding_of, world_in, condition_to}
use Rattle.sdh_node.proofs.RingLaws.Keeping.{length-new}
use Rattle.sdh_node.proofs.RingLaws.Histories.{holding_is, new_holds}
use Rattle.sdh_restoration.specs.Changes.{Stretch, rounds_in}
use Rattle.sdh_restoration.specs.Sides.{Holding, holding_in, side_history}
use Rattle.sdh_promise.specs.Owed.{Ring}
use Rattle.sdh_restoration.specs.Sides.{asked_in}
use Rattle.sdh_laws.specs.Hearing.Signalling.{filters_of, signals_of, needs_in, held_in}
use Rattle.sdh_laws.specs.Hearing.Laws.{IsWhole, SidesBring, RoundsAreSignalRounds, MayStart, RequestsAreTheHistorys}
use Rattle.sdh_laws.proofs.hearing.Changes.{each_new, new_worlds_are_whole, whole_all, whole_run}
use Rattle.sdh_laws.proofs.hearing.Nodes.{count, length-after, is_at}
use Rattle.sdh_laws.proofs.hearing.Staying.{world_low, world_high, left_in}
use Rattle.sdh_laws.proofs.hearing.Signalling.{no_sf, is_sf}
use Rattle.sdh_laws.proofs.hearing.Stretches.{ran_at, fits_new}
use Rattle.sdh_owed.specs.Laws.{ring_by}
use Rattle.sdh_aps.specs.Shown.{same_shown}
use Rattle.sdh_aps.specs.Showing.{shown_by, shown_of}
use Rattle.sdh_aps_cli.specs.Signalled.{ShownChange, shown_at, is_changed, change_of, change_at, shown_changes, changes_shown_in}
use Rattle.sdh_aps_cli.specs.ByScript.{fails_in, needs_at, needs_by, turns_in, held_by, signals_by}
use Rattle.sdh_aps_cli.specs.Owed.{shown_in, is_news, change_by, changes_by, all_changes_by}
use Rattle.sdh_aps_cli.proofs.Cells.{as_cells, flat_more, flat_same}
use Rattle.sdh_aps_cli.proofs.Alike.{alike_begin, alike_next}
use Rattle.sdh_aps_cli.proofs.Turns.{turns_at, turns_are}

-- what is known of rings over honest fibres
pub record Laws : Type 0 where
  pub rounds : RoundsAreSignalRounds
  pub sides : SidesBring
  pub requests : RequestsAreTheHistorys

-- ---- nodes

-- a new node's part of a ring of signals
first_state : (s : Settings) (ids : List ℕ) (circuits : Provisioning) (p : ℕ)
    → (new_node s ids circuits.circuits (position_of p)).state ≡ state.Idle tt
unfolding new_node
first_state s ids circuits p = refl

first_sent : (s : Settings) (ids : List ℕ) (circuits : Provisioning) (p : ℕ)
    → sent_of (new_node s ids circuits.circuits (position_of p)) ≡ first_words ids p
unfolding new_node
first_sent s ids circuits p = refl

first_filters : (s : Settings) (ids : List ℕ) (circuits : Provisioning) (p : ℕ)
    → filters_of (new_node s ids circuits.circuits (position_of p)) ≡ no_filters
unfolding new_node
first_filters s ids circuits p = refl

first_turns : (s : Settings) (ids : List ℕ) (circuits : Provisioning) (p : ℕ)
    → (new_node s ids circuits.circuits (position_of p)).held ≡ 0
unfolding new_node
first_turns s ids circuits p = refl

-- what a node has of a ring of signals
module _ (v : World) (p : ℕ) (inside : p < length v.ring.nodes) where
  state_at : (node_at v.ring.nodes p).state ≡ state_in (signals_of v) p
  unfolding signals_of
  state_at = sym (get_or-map (λ (n : Node). n.state) v.ring.nodes p nowhere (state.Idle tt) inside)

  words_at : sent_of (node_at v.ring.nodes p) ≡ words_in (signals_of v) p
  unfolding signals_of
  words_at = sym (get_or-map sent_of v.ring.nodes p nowhere (record { west = unsaid; east = unsaid }) inside)

  filters_at : filters_of (node_at v.ring.nodes p) ≡ get_or (signals_of v).filters p no_filters
  unfolding signals_of
  filters_at = sym (get_or-map filters_of v.ring.nodes p nowhere no_filters inside)

  needed_at : needed (node_at v.ring.nodes p) ≡ get_or (needs_in v) p no_needs
  unfolding needs_in
  needed_at = sym (get_or-map needed v.ring.nodes p nowhere no_needs inside)

-- ---- stretches

whole_in : (ss : List Stretch) (w : World) (t : ℕ) → IsWhole w → MayHappen w ss → IsWhole (world_in ss w t)
whole_in [] w t whole may = whole
whole_in (s ∷ ss) w t whole may =
    let v = all_changed s.changes w in
    let whole_v = whole_all s.changes w may.0 whole in
    elim (cases_lt t s.rounds) [
      | inl low ↦ subst IsWhole (sym (world_low s ss w t low)) (whole_run v t whole_v)
      | inr high ↦ subst IsWhole (sym (world_high s ss w t high))
          (whole_in ss (after_stretch s w) (t - s.rounds) (whole_run v s.rounds whole_v) may.1)
    ]

module _ (laws : Laws) (s : Settings) (ids : List ℕ) (circuits : Provisioning) (f : Fibres) (may : MayStart s ids f) (ss : List Stretch)
    (happen : MayHappen (new_world s ids circuits f) ss) where
  abbrev n : ℕ
  n = length ids

  abbrev from : World
  from = new_world s ids circuits f

  abbrev ring : Ring
  ring = ring_by s n circuits.circuits

  -- the world in which round t begins
  abbrev at : ℕ → World
  at t = world_in ss from t

  whole_from : IsWhole from
  whole_from = new_worlds_are_whole s ids circuits f may.ids_ok may.honest

  whole_at : (t : ℕ) → IsWhole (at t)
  whole_at t = whole_in ss from t whole_from happen

  ids_at : (t : ℕ) → t ≤ rounds_in ss → (at t).ring.ids ≡ ids
  ids_at t h = (left_in ss from t h).ids

  size_at : (t : ℕ) → t ≤ rounds_in ss → length (at t).ring.nodes ≡ n
  size_at t h = count (at t) (whole_at t).placed ∙ ap length (ids_at t h)

  -- ---- what nodes need

  cut_is : (t : ℕ) → t ≤ rounds_in ss → (p : ℕ) (d : Side) → p < n
      → is_cut (condition_to (at t) p d) ≡ (side_history n p d ss).is_cut t
  unfolding holding_of
  cut_is t h p d low =
      ap (λ (l : List ℕ). is_cut (condition_of (at t).fibres (fibre_to (length l) p d))) (ids_at t h)
      ∙ ap (λ (x : Holding). is_cut x.condition)
      (holding_is n p d ss from t (fits_new s ids circuits f) low ∙ ap (λ (x : Holding). holding_in n p d ss x t) (new_holds s ids circuits s.rate f p d low))

  fails_are : (t : ℕ) → t < rounds_in ss → (p : ℕ) (d : Side) → p < n
      → is_failed (receiving_on d (node_at (round (at t)).ring.nodes p)).local.defect ≡ fails_in n ss t p d
  fails_are zero h p d low =
      let size = size_at zero (omega arith) in
      let b = laws.sides (at zero) p d (whole_at zero) (omega (arith, size)) in
      ap is_failed (b.no_defect (ran_at s ids circuits f ss zero (omega arith)))
  fails_are (suc t) h p d low =
      let v = at (suc t) in
      let size = size_at (suc t) (omega arith) in
      let ran = ran_at s ids circuits f ss (suc t) (omega arith) in
      let b = laws.sides v p d (whole_at (suc t)) (omega (arith, size)) in
      let some : 0 < v.ring.rounds = omega (arith, ran) in
      let now = (receiving_on d (node_at (round v).ring.nodes p)).local.defect in
      let cut = cut_is (suc t) (omega arith) p d low in
      elim (cases_Bool (is_cut (condition_to v p d))) [
        | inl is ↦ is_sf now (b.fails some is) ∙ sym (sym cut ∙ is)
        | inr none ↦ no_sf now (b.works some none) ∙ sym (sym cut ∙ none)
      ]

  asks_are : (t : ℕ) → t < rounds_in ss → (p : ℕ) (d : Side) → p < n
      → (receiving_on d (node_at (round (at t)).ring.nodes p)).request ≡ asked_in s.threshold s.wait n ss t p d
  asks_are t h p d low = (laws.requests s ids circuits f ss may happen).each p d t low h

  need_is : (t : ℕ) → t < rounds_in ss → (p : ℕ) → p < n → needed (node_at (round (at t)).ring.nodes p) ≡ needs_at ring ss t p
  need_is t h p low = λ i. record {
    west = asks_are t h p West low i;
    east = asks_are t h p East low i;
    west_fails = fails_are t h p West low i;
    east_fails = fails_are t h p East low i;
  }

  needs_are : (t : ℕ) → t < rounds_in ss → needs_in (round (at t)) ≡ needs_by ring ss t
  unfolding needs_in
  needs_are t h =
      as_cells needed (needs_at ring ss t) no_needs (round (at t)).ring.nodes n (length-after (at t) ∙ size_at t (omega arith)) (need_is t h)

  -- ---- whose controllers are held

  inside_from : (p : ℕ) → p < n → p < length from.ring.nodes
  inside_from p low = (let size = length-new s ids circuits.circuits n in omega (arith, size))

  turns_new : (p : ℕ) → p < n → turns_at from p ≡ 0
  turns_new p low = each_new (λ q m. m.held ≡ 0) s ids circuits.circuits (λ q small. first_turns s ids circuits q) p (inside_from p low)

  turns_at_round : (t : ℕ) → t ≤ rounds_in ss → (p : ℕ) → p < n → is_held (node_at (at t).ring.nodes p) ≡ nat_le 1 (turns_in p ss 0 t)
  turns_at_round t h p low =
      ap (λ k. nat_le 1 k) (turns_are ss from t p whole_from happen (inside_from p low) h ∙ ap (λ k. turns_in p ss k t) (turns_new p low))

  held_are : (t : ℕ) → t ≤ rounds_in ss → held_in (at t) ≡ held_by n ss t
  unfolding held_in
  held_are t h = as_cells is_held (λ p. nat_le 1 (turns_in p ss 0 t)) false (at t).ring.nodes n (size_at t h) (turns_at_round t h)

  -- ---- the ring of signals

  new_cells : {Y : Type 0} (g : Node → Y) (h : ℕ → Y) (d : Y) → ((p : ℕ) → g (new_node s ids circuits.circuits (position_of p)) ≡ h p)
      → map g from.ring.nodes ≡ cells h n
  new_cells g h d each =
      as_cells g h d from.ring.nodes n (length-new s ids circuits.circuits n)
      (λ p low. each_new (λ q m. g m ≡ h q) s ids circuits.circuits (λ q small. each q) p (inside_from p low))

  signals_new : signals_of from ≡ (signal_ring.new_ring ids).ring
  unfolding signals_of
  signals_new = λ i. record {
    ids = ids;
    states = new_cells (λ (m : Node). m.state) (λ p. state.Idle tt) (state.Idle tt) (first_state s ids circuits) i;
    words = new_cells sent_of (first_words ids) (record { west = unsaid; east = unsaid }) (first_sent s ids circuits) i;
    filters = new_cells filters_of (λ p. no_filters) no_filters (first_filters s ids circuits) i;
    running = false;
  }

  pub goes : (t : ℕ) → t ≤ rounds_in ss → signals_of (at t) ≡ signals_by ring ids ss t
  goes zero h = (alike_begin ss from).signals ∙ signals_new
  goes (suc t) h =
      let low : t < rounds_in ss = omega arith in
      let few : t ≤ rounds_in ss = omega arith in
      (alike_next ss from t low).signals ∙ (laws.rounds (at t) (whole_at t)).goes
      ∙ λ i. signal.round (needs_are t low i) (held_are t few i) (goes t few i)

  needs_then : (t : ℕ) → t < rounds_in ss → needs_in (at (suc t)) ≡ needs_by ring ss t
  needs_then t h = (alike_next ss from t h).needs ∙ needs_are t h

  -- ---- what is shown

  shown_is : (t : ℕ) → t < rounds_in ss → (p : ℕ) → p < n → shown_at (at (suc t)).ring p ≡ shown_in ring ids ss t p
  unfolding shown_of shown_in
  shown_is t h p low =
      let v = at (suc t) in
      let later : suc t ≤ rounds_in ss = omega arith in
      let size = size_at (suc t) later in
      let inside : p < length v.ring.nodes = omega (arith, size) in
      let now = goes (suc t) later in
      let m = node_at v.ring.nodes p in
      let names : m.ids ≡ ids = (is_at v (whole_at (suc t)).placed p inside).ids_are ∙ ids_at (suc t) later in
      let states = state_at v p inside ∙ ap (λ (x : Signals). state_in x p) now in
      let words = words_at v p inside ∙ ap (λ (x : Signals). words_in x p) now in
      let filters = filters_at v p inside ∙ ap (λ (x : Signals). get_or x.filters p no_filters) now in
      let needs = needed_at v p inside ∙ ap (λ l. get_or l p no_needs) (needs_then t h) ∙ get_or-cells (needs_at ring ss t) n p no_needs low in
      λ i. shown_by (names i) (states i) (words i) (heard_through (filters i)) (needs i)

  told_is : (t : ℕ) → t < rounds_in ss → (p : ℕ) → p < n → is_changed (shown_at (at t).ring p) (at (suc t)).ring p ≡ is_news ring ids ss t p
  unfolding is_changed
  told_is zero h p low =
      ap (λ (b : Bool). b || not (same_shown (shown_at (at zero).ring p) (shown_at (at (suc zero)).ring p)))
      (eq-eqb (at (suc zero)).ring.rounds 1 (ran_at s ids circuits f ss (suc zero) (omega arith)))
  told_is (suc t) h p low =
      let r = (at (suc (suc t))).ring in
      let ran = ran_at s ids circuits f ss (suc (suc t)) (omega arith) in
      let first : (r.rounds == 1) ≡ (suc t == 0) =
      ne_eqb r.rounds 1 (λ e. omega (arith, ran)) ∙ sym (ne_eqb (suc t) 0 (λ e. omega arith)) in
      let back : t ≡ suc t - 1 = omega arith in
      let was = shown_is t (omega arith) p low ∙ ap (λ k. shown_in ring ids ss k p) back in
      let now = shown_is (suc t) h p low in
      λ i. first i || not (same_shown (was i) (now i))

  change_is : (t : ℕ) → t < rounds_in ss → (p : ℕ) → p < n → change_of (at (suc t)).ring p ≡ change_by ring ids ss t p
  change_is t h p low =
      let later : suc t ≤ rounds_in ss = omega arith in
      let ran = ran_at s ids circuits f ss (suc t) later in
      let number : (at (suc t)).ring.rounds - 1 ≡ t = omega (arith, ran) in
      let names = ids_at (suc t) later in
      let shows = shown_is t h p low in
      λ i. record { round = number i; id = get_or (names i) p 0; shown = shows i }

  one_is : (t : ℕ) → t < rounds_in ss → (p : ℕ) → p < n → change_at (shown_at (at t).ring) (at (suc t)).ring p
      ≡ (if is_news ring ids ss t p then change_by ring ids ss t p ∷ [] else [])
  one_is t h p low =
      let told = told_is t h p low in
      let change = change_is t h p low in
      λ i. if told i then change i ∷ [] else []

  -- a round shows what the ring of signals does in it
  round_shows : (t : ℕ) → t < rounds_in ss → shown_changes (at t).ring (at (suc t)).ring ≡ changes_by ring ids ss t
  round_shows t h =
      let was = shown_at (at t).ring in
      let now = (at (suc t)).ring in
      ap (λ (l : List ℕ). flat_map (change_at was now) (cells (λ p. p) (length l))) (ids_at (suc t) (omega arith))
      ∙ flat_same (change_at was now) (λ p. if is_news ring ids ss t p then change_by ring ids ss t p ∷ [] else []) n (one_is t h)

  -- the first k rounds of a course show what the ring of signals does in them
  pub rounds_show : (course : ℕ → World) (first k : ℕ) → ((j : ℕ) → j ≤ k → course j ≡ at (first + j)) → first + k ≤ rounds_in ss
      → changes_shown_in k course ≡ all_changes_by ring ids ss first k
  rounds_show course first zero same h = sym (ap (flat_map (changes_by ring ids ss)) (cells-zero (λ j. first + j)))
  rounds_show course first (suc k) same h =
      let low : first + k < rounds_in ss = omega arith in
      let next : first + suc k ≡ suc (first + k) = omega arith in
      let now : shown_changes (course k).ring (course (suc k)).ring ≡ changes_by ring ids ss (first + k) =
      ap₂ (λ (a b : World). shown_changes a.ring b.ring) (same k (omega arith)) (same (suc k) (omega arith) ∙ ap (world_in ss from) next)
      ∙ round_shows (first + k) low in
      ap₂ (λ (a b : List ShownChange). a ++ b) (rounds_show course first k (λ j less. same j (omega arith)) (omega arith)) now
      ∙ sym (flat_more (changes_by ring ids ss) (λ j. first + j) k)
