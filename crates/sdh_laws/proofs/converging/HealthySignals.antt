-- A healthy ring's requests, states and words.
use Rattle.std.proofs.Common.{◌≡◌, ℕ, zero, suc, ◌-◌, ◌*◌, ◌<◌, ◌≤◌, Bool, true, false, List, [], ◌∷◌, length, get_or, replicate}
use Rattle.std.proofs.Common.{Option, Some, None, refl, ap, sym, ◌∙◌, subst, arith, inl, inr}
use Rattle.std.specs.Prelude.{nat_lt, nat_le, if◌then◌else◌, slice_index}
use Rattle.std.proofs.lemmas.Bool.{cases_lt}
use Rattle.std.proofs.lemmas.List.{get_or-replicate, length-replicate, get_or_past}
use Rattle.sdh_basics.proofs.CellsLaws.{length-cells, get_or-cells}
use Rattle.sdh_ringmap.specs.declared.Side.{Side}
use Rattle.sdh_ringmap.specs.declared.Side.TheVariants.{West, East}
use Rattle.sdh_ringmap.specs.Places.{neighbour, opposite, position_of}
use Rattle.sdh_ringmap.specs.declared.terms.Code.TheVariants.{Nr}
use Rattle.sdh_kbytes.specs.declared.K.{K}
use Rattle.sdh_kbytes.specs.declared.Path.TheVariants.{Short}
use Rattle.sdh_kbytes.specs.declared.Mark.TheVariants as mark
use Rattle.sdh_circuits.specs.Provisioning.{Provisioning}
use Rattle.sdh_nodestate.specs.declared.NodeState.TheVariants as state
use Rattle.sdh_nodestate.specs.Rules.{word_on, word, state_after, own_id, id_on}
use Rattle.sdh_signal.specs.Signals.{no_needs}
use Rattle.sdh_ringmap.specs.declared.terms.Condition.TheVariants.{Clear}
use Rattle.sdh_plant.specs.Fibres.{Fibres}
use Rattle.sdh_ringmap.specs.Fibres.{fibre_to, is_cut, degraded_by}
use Rattle.sdh_request.specs.declared.settings.Settings.{Settings}
use Rattle.sdh_nodestate.specs.Words.{first_word}
use Rattle.sdh_nodestate.specs.Filtering.{Brought, with_brought, hears, heard_of}
use Rattle.sdh_nodestate.proofs.Filtering.{heard_last}
use Rattle.sdh_kbytes.proofs.SameWords.{agrees_itself}
use Rattle.sdh_node.specs.Crossing.{is_failed}
use Rattle.sdh_node.specs.Node.{Node, receiving_on, new_node, is_held, last_word_on, needed}
use Rattle.sdh_node.specs.Rings.Held.{new_nodes, nowhere, node_at}
use Rattle.sdh_node.specs.Rings.Rounds.{World, node_after}
use Rattle.sdh_node.specs.Rings.Runs.{run}
use Rattle.sdh_restoration.specs.Changes.{Stretch}
use Rattle.sdh_node.specs.Rings.Changes.{new_world}
use Rattle.sdh_node.specs.Rings.Laws.{MayHappen}
use Rattle.sdh_restoration.specs.Sides.{new_holding, holding_in, side_history}
use Rattle.sdh_node.specs.Rings.Sides.{condition_to}
use Rattle.sdh_laws.specs.Hearing.Signalling.{word_to}
use Rattle.sdh_laws.specs.Hearing.Laws.{IsWhole, MayStart, NoneWait}
use Rattle.sdh_laws.proofs.hearing.Clocks.{new_none}
use Rattle.sdh_laws.specs.Converging.Steady.{IsUnslipped}
use Rattle.sdh_laws.proofs.hearing.Changes.{new_worlds_are_whole, whole_run}
use Rattle.sdh_node.proofs.Decided.{scene_in, state_is, word_is, turns_left}
use Rattle.sdh_laws.proofs.hearing.Nodes.{informed, nodes_after, is_at}
use Rattle.sdh_laws.proofs.hearing.Rounds.{neighbour_inside, brings, word_on_is}
use Rattle.sdh_laws.proofs.hearing.Staying.{left_run}
use Rattle.sdh_laws.proofs.hearing.Stretches.{requests_are}
use Rattle.sdh_laws.proofs.converging.Runs.{length_run, condition_run}
use Rattle.sdh_laws.proofs.converging.Idle.{IsQuiet, idle, asks_nothing}
use Rattle.sdh_laws.proofs.converging.Uneventful as side
use Rattle.sdh_laws.proofs.converging.Uneventful.{IsUneventful}
use Rattle.sdh_laws.proofs.hearing.Signalling.{no_sf}
use Rattle.sdh_rounds.specs.Runs as any_run

all_clear : (m i : ℕ) → get_or (replicate m Clear) i Clear ≡ Clear
all_clear m i = elim (cases_lt i m) [
  | inl lt ↦ get_or-replicate m i Clear Clear lt
  | inr past ↦ get_or_past (replicate m Clear) i Clear (omega (arith, length-replicate m Clear))
]

-- a stretch of k rounds, without changes
abbrev only_rounds : ℕ → Stretch
only_rounds k = record { changes = []; rounds = k }

either_holds : {A : Type 0} (b : Bool) (a : A) → (if b then a else a) ≡ a
either_holds true a = refl
either_holds false a = refl

uneventful : (n p : ℕ) (d : Side) (k : ℕ) → IsUneventful (side_history n p d (only_rounds k ∷ []))
uneventful n p d k =
    let holds : (t : ℕ) → holding_in n p d (only_rounds k ∷ []) new_holding t ≡ new_holding = λ t. either_holds (nat_lt t k) new_holding in
    record {
      cut = λ t. ap (λ h. is_cut h.condition) (holds t);
      degraded = λ t. ap (λ h. degraded_by h.condition) (holds t);
      command = λ t. ap (λ h. h.command) (holds t);
    }

module _ (s : Settings) (ids : List ℕ) (circuits : Provisioning) (f : Fibres) (may : MayStart s ids f) where
  abbrev pub begin : World
  begin = new_world s ids circuits f

  pub begin_whole : IsWhole begin
  begin_whole = new_worlds_are_whole s ids circuits f may.ids_ok may.honest

  pub size : length begin.ring.nodes ≡ length ids
  unfolding new_nodes
  size = length-cells _ (length ids)

  pub new_is : (p : ℕ) → p < length ids → node_at (run 0 begin).ring.nodes p ≡ new_node s ids circuits.circuits (position_of p)
  unfolding new_nodes any_run.run
  new_is p h = get_or-cells (λ p. new_node s ids circuits.circuits (position_of p)) (length ids) p nowhere h

  -- no slip waits
  pub new_unslipped : IsUnslipped begin
  unfolding new_node any_run.run
  new_unslipped p h =
      subst (λ (n : Node). NoneWait n.ports) (sym (new_is p (omega (arith, size)))) (new_none (position_of p) circuits.circuits)

  pub clear_begin : (p : ℕ) (d : Side) → condition_to begin p d ≡ Clear
  clear_begin p d = all_clear (2 * length ids) (fibre_to (length ids) p d)

  clear_run : (k p : ℕ) (d : Side) → condition_to (run k begin) p d ≡ Clear
  clear_run k p d = condition_run begin k p d ∙ clear_begin p d

  -- ---- requests, by their histories

  pub request_none : (k p : ℕ) (d : Side) → p < length ids → (receiving_on d (node_at (run (suc k) begin).ring.nodes p)).request ≡ Nr
  request_none k p d h =
      let ss : List Stretch = only_rounds (suc k) ∷ [] in
      let happen : MayHappen begin ss = (tt, tt) in
      (requests_are s ids circuits f ss may happen).last p d k h (omega arith)
      ∙ side.asks_nothing s.threshold may.least s.wait (side_history (length ids) p d ss) (uneventful (length ids) p d (suc k)) k

  -- ---- each node

  -- what a side of it keeps after k rounds
  abbrev pub kept : ℕ → ℕ → Side → Brought
  kept k p d = (receiving_on d (node_at (run k begin).ring.nodes p)).brought

  -- the node at p isn't held after k rounds, is idle, says what a new node says, and hears no word that asks for
  -- something
  pub record IsHealthy (p k : ℕ) : Type 0 where
    pub turns : (node_at (run k begin).ring.nodes p).held ≡ 0
    pub state_idle : (node_at (run k begin).ring.nodes p).state ≡ state.Idle tt
    pub word_first : (d : Side) → last_word_on d (node_at (run k begin).ring.nodes p) ≡ first_word ids p d

  healthy_new : (p : ℕ) → p < length ids → IsHealthy p 0
  unfolding new_node
  healthy_new p h = record {
    turns = ap (λ (n : Node). n.held) (new_is p h);
    state_idle = ap (λ (n : Node). n.state) (new_is p h);
    word_first = λ d. ap (last_word_on d) (new_is p h) ∙ word_new d;
  }
    where
      word_new : (d : Side) → last_word_on d (new_node s ids circuits.circuits (position_of p)) ≡ first_word ids p d
      word_new West = refl
      word_new East = refl

  needs_is : (n : Node) → (scene_in n).needs ≡ needed n
  unfolding scene_in
  needs_is n = refl

  id_is : (n : Node) (d : Side) → id_on (scene_in n) d ≡ slice_index n.ids (neighbour (length n.ids) n.at.0 d)
  unfolding scene_in
  id_is n d = refl

  own_is : (n : Node) → own_id (scene_in n) ≡ slice_index n.ids n.at.0
  unfolding scene_in
  own_is n = refl

  abbrev count : ℕ
  count = length ids

  -- one round more, before which each node was healthy
  module _ (k : ℕ) (before : (q : ℕ) → q < count → IsHealthy q k) (p : ℕ) (h : p < count) where
    abbrev u : World
    u = run k begin

    uwhole : IsWhole u
    uwhole = whole_run begin k begin_whole

    there : p < length u.ring.nodes
    there = omega (arith, size, length_run begin k)

    abbrev new : Node
    new = node_at (run (suc k) begin).ring.nodes p

    new_next : new ≡ node_after u.ring.moment (informed u p)
    unfolding any_run.run
    new_next = nodes_after u uwhole.placed p there

    beside : (d : Side) → neighbour count p d < count
    beside d = let q = neighbour_inside begin begin_whole p d in omega (arith, size)

    word_comes : (d : Side) → word_to u p d ≡ first_word ids (neighbour count p d) (opposite d)
    word_comes d =
        ap (λ i. last_word_on (opposite d) (node_at u.ring.nodes (neighbour (length i) p d))) (left_run k begin).ids
        ∙ (before (neighbour count p d) (beside d)).word_first (opposite d)

    not_cut : (d : Side) → is_cut (condition_to u p d) ≡ false
    not_cut d = ap is_cut (clear_run k p d)

    works : (d : Side) → is_failed (receiving_on d new).local.defect ≡ false
    unfolding any_run.run
    works d =
        let b = brings u uwhole p d there in
        elim (cases_lt 0 u.ring.rounds) [
          | inr none ↦ ap is_failed (b.no_defect (let z : u.ring.rounds ≡ 0 = omega arith in z))
          | inl some ↦ no_sf _ (b.works some (not_cut d))
        ]

    needs_none : needed new ≡ no_needs
    needs_none =
        let west = request_none k p West h in
        let east = request_none k p East h in
        let west_fails = works West in
        let east_fails = works East in
        λ i. record { west = west i; east = east i; west_fails = west_fails i; east_fails = east_fails i }

    quiet_last : (d : Side) → IsQuiet (receiving_on d new).brought.last
    unfolding any_run.run
    quiet_last d =
        let b = brings u uwhole p d there in
        elim (cases_lt 0 u.ring.rounds) [
          | inr none ↦ subst IsQuiet (sym (b.nothing (let z : u.ring.rounds ≡ 0 = omega arith in z))) tt
          | inl some ↦ subst IsQuiet (sym (b.comes some (not_cut d) ∙ ap (λ w. Some w) (word_comes d))) (refl, refl)
        ]

    quiet_next : (d : Side) → IsQuiet (hears (receiving_on d new).brought)
    quiet_next d = by_heard (hears (receiving_on d new).brought) refl
      where
        by_heard : (o : Option K) → hears (receiving_on d new).brought ≡ o → IsQuiet o
        by_heard None e = tt
        by_heard (Some k) e = subst IsQuiet (heard_last (receiving_on d new).brought k e) (quiet_last d)

    pub last_next : (d : Side) → 1 ≤ k → (kept (suc k) p d).last ≡ Some (first_word ids (neighbour count p d) (opposite d))
    unfolding any_run.run
    last_next d some =
        let b = brings u uwhole p d there in
        b.comes (let r = (left_run k begin).rounds in omega arith) (not_cut d) ∙ ap (λ w. Some w) (word_comes d)

    pub earlier_next : (d : Side) → kept (suc k) p d ≡ with_brought (kept (suc k) p d).last (kept k p d)
    unfolding any_run.run
    earlier_next d = (brings u uwhole p d there).earlier

    free : is_held (node_at u.ring.nodes p) ≡ false
    free = ap (nat_le 1) (before p h).turns

    quiet_scene : (d : Side) → IsQuiet (word_on (scene_in new) d)
    quiet_scene d = subst IsQuiet (sym (word_on_is new d)) (quiet_next d)

    needs_scene : (scene_in new).needs ≡ no_needs
    needs_scene = needs_is new ∙ needs_none

    state_next : new.state ≡ state.Idle tt
    state_next =
        subst (λ (n : Node). n.state ≡ (if is_held (node_at u.ring.nodes p)
        then (node_at u.ring.nodes p).state else state_after (scene_in n))) (sym new_next) (state_is u.ring.moment (informed u p))
        ∙ ap (λ (b : Bool). if b then (node_at u.ring.nodes p).state else state_after (scene_in new)) free
        ∙ idle (scene_in new) needs_scene quiet_scene

    word_next : (d : Side) → last_word_on d new ≡ first_word ids p d
    word_next d =
        let is = is_at (run (suc k) begin) (whole_run begin (suc k) begin_whole).placed p (omega (arith, size, length_run begin (suc k))) in
        let ids_are : new.ids ≡ ids = is.ids_are ∙ (left_run (suc k) begin).ids in
        let to : id_on (scene_in new) d ≡ slice_index ids (neighbour count p d) =
        id_is new d ∙ ap (λ i. slice_index i (neighbour (length i) new.at.0 d)) ids_are
        ∙ ap (λ a. slice_index ids (neighbour count a d)) is.at in
        let from : own_id (scene_in new) ≡ slice_index ids p =
        own_is new ∙ ap (λ i. slice_index i new.at.0) ids_are ∙ ap (λ a. slice_index ids a) is.at in
        subst (λ (n : Node). last_word_on d n ≡ (if is_held (node_at u.ring.nodes p) then last_word_on d (informed u p) else word (scene_in n) d))
        (sym new_next) (word_is u.ring.moment (informed u p) d)
        ∙ ap (λ (b : Bool). if b then last_word_on d (informed u p) else word (scene_in new) d) free
        ∙ asks_nothing (scene_in new) needs_scene quiet_scene d
        ∙ (λ i. record { code = Nr; to = to i; from = from i; path = Short; mark = mark.Idle })

    healthy_next : IsHealthy p (suc k)
    healthy_next = record {
      turns = ap (λ (n : Node). n.held) new_next ∙ turns_left u.ring.moment (informed u p)
          ∙ ap (λ t. t - 1) (before p h).turns;
      state_idle = state_next;
      word_first = word_next;
    }

  pub healthy : (k p : ℕ) → p < count → IsHealthy p k
  healthy zero p h = healthy_new p h
  healthy (suc k) p h = healthy_next k (λ q. healthy k q) p h

  -- no node is held
  pub free_in : (k p : ℕ) → p < length (run k begin).ring.nodes → is_held (node_at (run k begin).ring.nodes p) ≡ false
  free_in k p h = ap (nat_le 1) (healthy k p (omega (arith, size, length_run begin k))).turns

  -- from round 1 on the neighbour's word comes, and from round 3 on it is heard
  comes_first : (k p : ℕ) (d : Side) → p < count → 1 ≤ k → (kept (suc k) p d).last
      ≡ Some (first_word ids (neighbour count p d) (opposite d))
  comes_first k p d h some = last_next k (λ q. healthy k q) p h d some

  second_is : (k p : ℕ) (d : Side) → p < count → (kept (suc k) p d).second ≡ (kept k p d).last
  second_is k p d h = ap (λ (b : Brought). b.second) (earlier_next k (λ q. healthy k q) p h d)

  third_is : (k p : ℕ) (d : Side) → p < count → (kept (suc k) p d).third ≡ (kept k p d).second
  third_is k p d h = ap (λ (b : Brought). b.third) (earlier_next k (λ q. healthy k q) p h d)

  agree_with_itself : (k : K) → heard_of (Some k) (Some k) (Some k) ≡ Some k
  agree_with_itself k = rw (agrees_itself k) refl

  pub heard_first : (k p : ℕ) (d : Side) → p < count → 3 ≤ k
      → hears (receiving_on d (node_at (run (suc k) begin).ring.nodes p)).brought ≡ Some (first_word ids (neighbour count p d) (opposite d))
  heard_first k p d h some =
      let said = first_word ids (neighbour count p d) (opposite d) in
      let j = k - 1 in
      let i = k - 2 in
      let at_j : suc j ≡ k = omega arith in
      let at_i : suc i ≡ j = omega arith in
      let last = comes_first k p d h (omega arith) in
      let second = second_is k p d h ∙ ap (λ m. (kept m p d).last) (sym at_j) ∙ comes_first j p d h (omega arith) in
      let third =
      third_is k p d h ∙ ap (λ m. (kept m p d).second) (sym at_j) ∙ second_is j p d h ∙ ap (λ m. (kept m p d).last) (sym at_i)
      ∙ comes_first i p d h (omega arith) in
      (λ t. heard_of (last t) (second t) (third t)) ∙ agree_with_itself said
