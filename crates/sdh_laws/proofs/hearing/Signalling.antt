-- The rounds of a ring with frames are rounds of a ring of signals.
use Rattle.sdh_basics.specs.Indexed.{map_from}
use Rattle.sdh_ringmap.specs.declared.Side.{Side}
use Rattle.sdh_ringmap.specs.declared.Side.TheVariants.{West, East}
use Rattle.sdh_ringmap.specs.Places.{neighbour, opposite}
use Rattle.sdh_ringmap.specs.declared.terms.Code.{Code}
use Rattle.sdh_ringmap.specs.Requests.{code_number}
use Rattle.sdh_ringmap.proofs.Sides.{neighbour_below}
use Rattle.sdh_basics.proofs.CellsLaws.{cells-same}
use Rattle.sdh_request.specs.declared.Defect.{Defect}
use Rattle.sdh_request.specs.declared.Defect.TheVariants as defect
use Rattle.sdh_request.specs.Kept.{kept_request}
use Rattle.sdh_nodestate.specs.declared.Needs.{Needs}
use Rattle.sdh_nodestate.specs.declared.NodeState.{NodeState}
use Rattle.sdh_nodestate.specs.declared.Sent.{Sent}
use Rattle.sdh_nodestate.specs.Rules.{scene, word, state_after, sent_after}
use Rattle.sdh_nodestate.specs.Conditions.{MayNeed}
use Rattle.sdh_nodestate.specs.Words.{IsSourced}
use Rattle.sdh_nodestate.specs.Filtering.{Brought, with_brought}
use Rattle.sdh_restoration.specs.Applied.{span_requests}
use Rattle.sdh_signal.specs.Settled.{settled_states}
use Rattle.sdh_signal.specs.Signals as signal
use Rattle.sdh_signal.specs.Signals.{Filters, no_filters, Signals, fails_on, sent_on, on_their_way, incoming, filters_after}
use Rattle.sdh_signal.specs.Signals.{heard_through, scene_at, state_in, words_in, free_round, MaySignal, requests_in, request_on, no_needs}
use Rattle.sdh_signal.specs.Laws.{ChangesNoWord, StillRingsAreSettled}
use Rattle.sdh_signal.proofs.Fixpoint.{free_rounds}
use Rattle.std.proofs.Common.{◌≡◌, ◌≢◌, ℕ, zero, suc, ◌+◌, ◌-◌, ◌<◌, ◌≤◌, Bool, true, false, List, [], ◌∷◌, length, get_or, map, Some, None}
use Rattle.std.proofs.Common.{refl, ap, sym, subst, ◌∙◌, arith, inl, inr}
use Rattle.std.specs.Prelude.{nat_le, max, if◌then◌else◌, option_map, slice_get, All}
use Rattle.std.proofs.lemmas.Bool.{cases_lt, le-leb, cases_Bool, both_ways}
use Rattle.std.proofs.lemmas.List.Folds.{list_all_at}
use Rattle.std.proofs.lemmas.List.Sums.{list_all-from_AllPass}
use Rattle.std.proofs.lemmas.List.{length-map, get_or-map}
use Rattle.std.proofs.lemmas.List.Elements.{All-map}
use Rattle.std.proofs.lemmas.Option.{slice_get-get_or, slice_get-map}
use Rattle.sdh_node.specs.Same.{Compared}
use Rattle.sdh_node.specs.Crossing.{is_failed}
use Rattle.sdh_node.specs.Node.{Node, receiving_on, is_held, compared, sent_of, needed, heard_by, last_word_on}
use Rattle.sdh_node.specs.Rings.Rounds.{World, round, node_after}
use Rattle.sdh_node.specs.Rings.Runs.{run, course}
use Rattle.sdh_node.specs.Rings.Quiet.{is_calm, IsCalm}
use Rattle.sdh_rounds.proofs.Runs.{known_settles}
use Rattle.sdh_laws.specs.Hearing.Placed.{IsPlaced}
use Rattle.sdh_ringmap.specs.Fibres.{is_cut}
use Rattle.sdh_node.specs.Rings.Sides.{condition_to}
use Rattle.sdh_laws.specs.Hearing.Signalling.{filters_of, signals_of, needs_in, held_in}
use Rattle.sdh_laws.specs.Hearing.Laws.{IsWhole, RoundsAreSignalRounds, RoundIsStill, CalmRoundsAreStill, ThreeCalmRoundsAreSettled}
use Rattle.sdh_laws.specs.Hearing.Laws.{WindowsAreSettled, IsSettled, StepsSettle}
use Rattle.sdh_node.proofs.Decided.{scene_in, state_is, word_is}
use Rattle.sdh_node.proofs.Calm.{calm_leaves, unchanged_is_calm}
use Rattle.sdh_laws.proofs.hearing.OneNode.{may_need}
use Rattle.sdh_laws.proofs.hearing.Staying.{left_run}
use Rattle.sdh_laws.proofs.hearing.Nodes.{at_any, informed, informed_out, count, nodes_after, length-after, one_more, is_at}
use Rattle.sdh_laws.proofs.hearing.Rounds.{neighbour_inside, brings, took_is, whole_round}
use Rattle.sdh_laws.proofs.hearing.Changes.{whole_run}
use Rattle.sdh_node.specs.Rings.Held.{nowhere, node_at, AtEach}
use Rattle.sdh_node.specs.Stations.{adm}
use Rattle.sdh_rounds.specs.Rounds as any_round
use Rattle.sdh_rounds.specs.Runs as any_run
use Rattle.sdh_rounds.proofs.Terms.{terms}

-- ---- lists

mapped_from : {Y : Type 0} (f : Node → Y) (h : ℕ → Needs → Y) (g : Node → Needs) (i : ℕ) (ns : List Node)
    → ((k : ℕ) → k < length ns → f (node_at ns k) ≡ h (i + k) (g (node_at ns k))) → map f ns ≡ map_from h i (map g ns)
mapped_from f h g i [] same = refl
mapped_from f h g i (n ∷ ns) same =
    ap (λ y. y ∷ map f ns) (same 0 (omega arith) ∙ ap (λ k. h k (g n)) (let e : i + 0 ≡ i = omega arith in e))
    ∙ ap (λ l. h i (g n) ∷ l) (mapped_from f h g (i + 1) ns
    (λ k lt. same (suc k) (omega arith) ∙ ap (λ j. h j (g (node_at ns k))) (let e : i + suc k ≡ i + 1 + k = omega arith in e)))

pub mapped_same : {Y : Type 0} (f : Node → Y) (xs ys : List Node) → length xs ≡ length ys
    → ((k : ℕ) → k < length xs → f (node_at xs k) ≡ f (node_at ys k)) → map f xs ≡ map f ys
mapped_same f [] [] len same = refl
mapped_same f [] (y ∷ ys) len same = absurd (omega arith)
mapped_same f (x ∷ xs) [] len same = absurd (omega arith)
mapped_same f (x ∷ xs) (y ∷ ys) len same =
    ap (λ z. z ∷ map f xs) (same 0 (omega arith)) ∙ ap (λ l. f y ∷ l)
    (mapped_same f xs ys (omega arith) (λ k lt. same (suc k) (omega arith)))

-- where the sides of all positions ask for the same, the spans have the same requests
pub spans_same : (n : ℕ) (f g : ℕ → Side → Code) → ((p : ℕ) (d : Side) → p < n → f p d ≡ g p d) → span_requests n f ≡ span_requests n g
unfolding span_requests
spans_same n f g same = cells-same _ _ n 0 (λ s lt.
    (let below : neighbour n s East < n = neighbour_below n s East (omega arith) in
    ap (λ c. max (code_number c) (code_number (f (neighbour n s East) West))) (same s East lt)
    ∙ ap (λ c. max (code_number (g s East)) (code_number c)) (same (neighbour n s East) West below)))

-- the request in a node's needs is the request of its side
pub needs_at : (ns : List Node) (p : ℕ) (d : Side) → p < length ns
    → request_on (get_or (map needed ns) p no_needs) d ≡ (receiving_on d (node_at ns p)).request
needs_at ns p West h = ap (λ (y : Needs). y.west) (get_or-map needed ns p nowhere no_needs h)
needs_at ns p East h = ap (λ (y : Needs). y.east) (get_or-map needed ns p nowhere no_needs h)

pub same_signals : (a b : Signals) → a.ids ≡ b.ids → a.states ≡ b.states → a.words ≡ b.words → a.filters ≡ b.filters → a.running ≡ b.running
    → a ≡ b
same_signals a b ids states words filters running =
    λ i. record { ids = ids i; states = states i; words = words i; filters = filters i; running = running i }

same_filters : (a b : Filters) → a.west ≡ b.west → a.east ≡ b.east → a ≡ b
same_filters a b west east = λ i. record { west = west i; east = east i }

sent_on_is : (n : Node) (d : Side) → sent_on (sent_of n) d ≡ last_word_on d n
sent_on_is n West = refl
sent_on_is n East = refl

fails_on_is : (n : Node) (d : Side) → fails_on (needed n) d ≡ is_failed (receiving_on d n).local.defect
fails_on_is n West = refl
fails_on_is n East = refl

pub is_sf : (y : Defect) → y ≡ defect.Sf → is_failed y ≡ true
is_sf defect.None e = cc
is_sf defect.Sd e = cc
is_sf defect.Sf e = refl

pub no_sf : (y : Defect) → y ≢ defect.Sf → is_failed y ≡ false
no_sf defect.None e = refl
no_sf defect.Sd e = refl
no_sf defect.Sf e = absurd (e refl)

module _ (w : World) (whole : IsWhole w) where
  abbrev size : ℕ
  size = length w.ring.ids

  open terms w use {t}

  abbrev after : List Node
  after = (round w).ring.nodes

  abbrev before : Signals
  before = signals_of w

  abbrev after_at : ℕ → Node
  after_at p = node_at after p

  old_inside : (p : ℕ) → p < length after → p < length w.ring.nodes
  old_inside p h = omega (arith, length-after w)

  abbrev coming : List Sent
  coming = on_their_way before

  none_coming : t ≡ 0 → coming ≡ []
  unfolding signals_of
  none_coming e = ap (λ k. if nat_le 1 k then map sent_of w.ring.nodes else []) e

  all_coming : 0 < t → coming ≡ map sent_of w.ring.nodes
  unfolding signals_of
  all_coming h = ap (λ (b : Bool). if b then map sent_of w.ring.nodes else []) (le-leb 1 t (omega arith))

  nothing_in : (b : Bool) (q : ℕ) (e : Side) → None ≡ (if b then None else option_map (λ s. sent_on s e) (slice_get [] q))
  nothing_in true q e = refl
  nothing_in false q e = refl

  -- what came to a node is what comes in of the words before
  came_incoming : (p : ℕ) (d : Side) → p < length after → (receiving_on d (after_at p)).brought.last
      ≡ incoming coming size p (needed (after_at p)) d
  came_incoming p d h =
      let low = old_inside p h in
      let n = after_at p in
      let r = receiving_on d n in
      let b = brings w whole p d low in
      let q = neighbour size p d in
      let In = λ (f : Bool) (words : List Sent). if f then None else option_map (λ s. sent_on s (opposite d)) (slice_get words q) in
      let fails = fails_on (needed n) d in
      elim (cases_lt 0 t) [
        | inr none ↦ (let e : t ≡ 0 = omega arith in b.nothing e ∙ nothing_in fails q (opposite d) ∙ ap (In fails) (sym (none_coming e)))
        | inl some ↦ elim (cases_Bool (is_cut (condition_to w p d))) [
          | inl cut ↦ b.silent some cut ∙ sym (ap (λ f. In f coming) (fails_on_is n d ∙ is_sf r.local.defect (b.fails some cut)))
          | inr clear ↦ b.comes some clear ∙ sym (ap (λ f. In f coming) (fails_on_is n d ∙ no_sf r.local.defect (b.works some clear))
              ∙ ap (In false) (all_coming some)
              ∙ ap (option_map (λ s. sent_on s (opposite d)))
              (slice_get-map sent_of w.ring.nodes q ∙ ap (option_map sent_of)
              (slice_get-get_or w.ring.nodes q nowhere (neighbour_inside w whole p d)))
              ∙ ap Some (sent_on_is (node_at w.ring.nodes q) (opposite d)))
        ]
      ]

  kept_at : (p : ℕ) → p < length w.ring.nodes → filters_of (node_at w.ring.nodes p) ≡ get_or before.filters p no_filters
  unfolding signals_of
  kept_at p h = sym (get_or-map filters_of w.ring.nodes p nowhere no_filters h)

  -- a node's filters are those of the ring of signals
  filters_same : (p : ℕ) → p < length after → filters_of (after_at p) ≡ filters_after before p (needed (after_at p))
  unfolding filters_after signals_of
  filters_same p h = same_filters _ _ (side West (λ (f : Filters). f.west) refl refl) (side East (λ (f : Filters). f.east) refl refl)
    where
      low : p < length w.ring.nodes
      low = old_inside p h

      side : (d : Side) (on : Filters → Brought) → (receiving_on d (after_at p)).brought ≡ on (filters_of (after_at p))
          → (receiving_on d (node_at w.ring.nodes p)).brought ≡ on (filters_of (node_at w.ring.nodes p))
          → on (filters_of (after_at p)) ≡ with_brought (incoming coming size p (needed (after_at p)) d)
          (on (get_or before.filters p no_filters))
      side d on now was =
          sym now ∙ (brings w whole p d low).earlier
          ∙ ap (λ k. with_brought k (receiving_on d (node_at w.ring.nodes p)).brought) (came_incoming p d h)
          ∙ ap (with_brought (incoming coming size p (needed (after_at p)) d)) (was ∙ ap on (kept_at p low))

  placed : IsPlaced (round w)
  placed = (whole_round w whole).placed

  ids_same : (round w).ring.ids ≡ w.ring.ids
  unfolding any_round.round any_round.round_with
  ids_same = refl

  -- the scene of a node is that of the ring of signals
  same_ids : w.ring.ids ≡ before.ids
  unfolding signals_of
  same_ids = refl

  scene_same : (p : ℕ) → p < length after → scene_in (after_at p) ≡ scene_at before p (needed (after_at p))
  unfolding scene_in scene_at
  scene_same p h =
      let c = (after_at p) in
      let is = is_at (round w) placed p h in
      ap (λ ids. scene ids c.at.0 (needed c) (heard_by c)) (is.ids_are ∙ ids_same ∙ same_ids)
      ∙ ap (λ at. scene before.ids at (needed c) (heard_by c)) is.at
      ∙ ap (λ fs. scene before.ids p (needed c) (heard_through fs)) (filters_same p h)

  abbrev held : List Bool
  held = held_in w

  held_at : (p : ℕ) → p < length w.ring.nodes → is_held (node_at w.ring.nodes p) ≡ signal.is_held held p
  unfolding held_in
  held_at p h = sym (get_or-map is_held w.ring.nodes p nowhere false h)

  old_state : (p : ℕ) → p < length w.ring.nodes → (node_at w.ring.nodes p).state ≡ state_in before p
  unfolding signals_of
  old_state p h = sym (get_or-map (λ (n : Node). n.state) w.ring.nodes p nowhere _ h)

  old_words : (p : ℕ) → p < length w.ring.nodes → sent_of (node_at w.ring.nodes p) ≡ words_in before p
  unfolding signals_of
  old_words p h = sym (get_or-map sent_of w.ring.nodes p nowhere _ h)

  abbrev next_state : ℕ → Needs → NodeState
  next_state p x = if signal.is_held held p then state_in before p else state_after (scene_at before p x)

  abbrev next_words : ℕ → Needs → Sent
  next_words p x = if signal.is_held held p then words_in before p else sent_after (scene_at before p x)

  state_same : (p : ℕ) → p < length after → (after_at p).state ≡ next_state p (needed (after_at p))
  state_same p h =
      let low = old_inside p h in
      let here = held_at p low in
      subst (λ (n : Node). n.state ≡ (if is_held (node_at w.ring.nodes p)
      then (node_at w.ring.nodes p).state else state_after (scene_in n))) (sym (nodes_after w whole.placed p low))
      (state_is w.ring.moment (informed w p))
      ∙ λ i. if here i then old_state p low i else state_after (scene_same p h i)

  word_same : (p : ℕ) (d : Side) → p < length after → last_word_on d (after_at p)
      ≡ (if is_held (node_at w.ring.nodes p) then last_word_on d (node_at w.ring.nodes p) else word (scene_at before p (needed (after_at p))) d)
  word_same p d h =
      let low = old_inside p h in
      let b = is_held (node_at w.ring.nodes p) in
      subst (λ (n : Node). last_word_on d n ≡ (if b then last_word_on d (informed w p) else word (scene_in n) d))
      (sym (nodes_after w whole.placed p low)) (word_is w.ring.moment (informed w p) d)
      ∙ λ i. if b then (informed_out w p d i).word else word (scene_same p h i) d

  by_turn : (b : Bool) (x y : Sent) → (record { west = if b then x.west else y.west; east = if b then x.east else y.east })
      ≡ (if b then x else y)
  by_turn true x y = refl
  by_turn false x y = refl

  sent_same : (p : ℕ) → p < length after → sent_of (after_at p) ≡ next_words p (needed (after_at p))
  sent_same p h =
      let low = old_inside p h in
      let b = is_held (node_at w.ring.nodes p) in
      let here = held_at p low in
      let ruled = sent_after (scene_at before p (needed (after_at p))) in
      (λ i. record { west = word_same p West h i; east = word_same p East h i })
      ∙ by_turn b (sent_of (node_at w.ring.nodes p)) ruled
      ∙ λ i. if here i then old_words p low i else ruled

  words_are : (signals_of (round w)).words ≡ map sent_of after
  unfolding signals_of
  words_are = refl

  goes_running : (signals_of (round w)).running ≡ true
  unfolding signals_of
  goes_running = le-leb 1 (round w).ring.rounds (let e = one_more w in omega arith)

  from_zero : {Y : Type 0} (f : Node → Y) (h : ℕ → Needs → Y) → ((p : ℕ) → p < length after → f (after_at p) ≡ h p (needed (after_at p)))
      → map f after ≡ map_from h 0 (map needed after)
  from_zero f h same =
      mapped_from f h needed 0 after (λ p low. same p low ∙ ap (λ k. h k (needed (after_at p))) (let e : p ≡ 0 + p = omega arith in e))

  pub goes_on : signals_of (round w) ≡ signal.round (needs_in (round w)) (held_in w) (signals_of w)
  unfolding signals_of needs_in signal.round
  goes_on = same_signals _ _ ids_same
      (from_zero (λ n. n.state) next_state state_same)
      (from_zero sent_of next_words sent_same)
      (from_zero filters_of (λ p x. filters_after before p x) filters_same)
      goes_running

  pub request_is : (p : ℕ) (d : Side) → p < length after → (receiving_on d (after_at p)).request
      ≡ kept_request (receiving_on d (after_at p)).local
  request_is p d h = let took = took_is w whole p d (old_inside p h) in took.request ∙ ap kept_request (sym took.local)

  needs_sound : (p : ℕ) → p < length after → MayNeed (needed (after_at p))
  needs_sound p h =
      let c = (after_at p) in
      subst MayNeed (λ i. record {
        west = sym (request_is p West h) i;
        east = sym (request_is p East h) i;
        west_fails = is_failed c.west.local.defect;
        east_fails = is_failed c.east.local.defect;
      }) (may_need c.west.local c.east.local)

  sourced_words : All (IsSourced w.ring.ids) before.words
  unfolding signals_of
  sourced_words =
      All-map (IsSourced w.ring.ids) sent_of w.ring.nodes (λ p x h.
      (let is = whole.paired.sourced p h in subst (λ n. IsSourced w.ring.ids (sent_of n)) (sym (at_any w.ring.nodes p x h))
      (record { west = is West; east = is East })))

  pub may_go : MaySignal (needs_in (round w)) (signals_of w)
  unfolding signals_of needs_in
  may_go = record {
    ids_ok = whole.placed.ids;
    size = length-map after needed ∙ length-after w ∙ count w whole.placed;
    sound = All-map MayNeed needed after (λ p x h. subst (λ n. MayNeed (needed n)) (sym (at_any after p x h)) (needs_sound p h));
    said = length-map w.ring.nodes sent_of ∙ count w whole.placed;
    sourced = sourced_words;
  }

  -- where no node is held, the round is one that holds none
  pub goes_free : AtEach (λ p n. is_held n ≡ false) w.ring.nodes → signals_of (round w) ≡ free_round (needs_in (round w)) (signals_of w)
  unfolding held_in
  goes_free free =
      goes_on ∙ free_rounds (needs_in (round w)) (held_in w) (signals_of w)
      (All-map (λ b. b ≡ false) is_held w.ring.nodes (λ p x h. ap is_held (at_any w.ring.nodes p x h) ∙ free p h))

  -- ---- calm

  module _ (calm : is_calm after ≡ true) where
    node_calm : (p : ℕ) → p < length after → (node_at after p).calm ≡ true
    node_calm p h = elim (cases_Bool (node_at after p).calm) [
      | inl is ↦ is
      | inr other ↦ absurd (both_ways (is_calm after) (list_all_at (λ (n : Node). n.calm) after p nowhere h other) calm)
    ]

    leaves : (p : ℕ) → p < length w.ring.nodes → (1 ≤ (informed w p).rounds) × (is_held (informed w p) ≡ false)
        × (compared (node_after w.ring.moment (informed w p)) ≡ compared (informed w p))
    leaves p h =
        let high : p < length after = omega (arith, length-after w) in
        calm_leaves w.ring.moment (informed w p) (ap (λ (n : Node). n.calm) (sym (nodes_after w whole.placed p h)) ∙ node_calm p high)

    pub ran_before : 0 < t
    ran_before =
        let enough = whole.placed.ids.enough in
        let low : 0 < length w.ring.nodes = omega (arith, count w whole.placed) in
        let one = (leaves 0 low).0 in
        let ran = (whole.placed.between 0 low).ran in
        omega arith

    pub same_there : (p : ℕ) → p < length w.ring.nodes → compared (node_at after p) ≡ compared (node_at w.ring.nodes p)
    same_there p h = ap compared (nodes_after w whole.placed p h) ∙ (leaves p h).2

    pub free_there : AtEach (λ p n. is_held n ≡ false) w.ring.nodes
    free_there p h = (leaves p h).1

    words_still : (signals_of (round w)).words ≡ before.words
    unfolding signals_of
    words_still =
        mapped_same sent_of after w.ring.nodes (length-after w)
        (λ p h. ap (λ (c : Compared). record { west = c.west_out.word; east = c.east_out.word }) (same_there p (old_inside p h)))

    states_still : (signals_of (round w)).states ≡ before.states
    unfolding signals_of
    states_still =
        mapped_same (λ (n : Node). n.state) after w.ring.nodes (length-after w)
        (λ p h. ap (λ (c : Compared). c.state) (same_there p (old_inside p h)))

    request_still : (p : ℕ) (d : Side) → p < length w.ring.nodes
        → (receiving_on d (after_at p)).request ≡ (receiving_on d (node_at w.ring.nodes p)).request
    request_still p West h = ap (λ (c : Compared). c.west.request) (same_there p h)
    request_still p East h = ap (λ (c : Compared). c.east.request) (same_there p h)

    pub requests_still : requests_in (needs_in (round w)) ≡ requests_in (needs_in w)
    unfolding needs_in
    requests_still =
        let ns = w.ring.nodes in
        let len : length (map needed after) ≡ length (map needed ns) =
        length-map after needed ∙ length-after w ∙ sym (length-map ns needed) in
        ap (λ n. span_requests n (λ p d. request_on (get_or (map needed after) p no_needs) d)) len
        ∙ spans_same (length (map needed ns)) (λ p d. request_on (get_or (map needed after) p no_needs) d)
        (λ p d. request_on (get_or (map needed ns) p no_needs) d)
        (λ p d lt. (let low : p < length ns = omega (arith, length-map ns needed) in
        let high : p < length after = omega (arith, length-after w) in
        needs_at after p d high ∙ request_still p d low ∙ sym (needs_at ns p d low)))

    pub is_still : RoundIsStill w
    is_still = record {
      later = ran_before;
      free = free_there;
      same = same_there;
      words = words_still;
      states = states_still;
      requests = requests_still;
    }

    runs : (signals_of w).running ≡ true
    unfolding signals_of
    runs = le-leb 1 t ran_before

    -- the round changes no word of a ring of signals
    pub changes_none : ChangesNoWord (needs_in (round w)) (signals_of w)
    changes_none = record {
      running = runs;
      may = may_go;
      words = sym (ap (λ (s : Signals). s.words) (goes_free free_there)) ∙ words_still;
    }

  -- a later round that holds no node and leaves all that is compared at each is calm
  pub calm_where_same : 0 < t → AtEach (λ p n. is_held n ≡ false) w.ring.nodes
      → ((p : ℕ) → p < length w.ring.nodes → compared (after_at p) ≡ compared (node_at w.ring.nodes p)) → is_calm after ≡ true
  calm_where_same ran free same = list_all-from_AllPass (λ (n : Node). n.calm) after (λ p x h.
      (let low = old_inside p h in
      let next = nodes_after w whole.placed p low in
      ap (λ (n : Node). n.calm) (at_any after p x h ∙ next)
      ∙ unchanged_is_calm w.ring.moment (informed w p) (let r = (whole.placed.between p low).ran in omega arith) (free p low)
      (ap compared (sym next) ∙ same p low)))

pub rounds_are_signal_rounds : RoundsAreSignalRounds
rounds_are_signal_rounds w whole = record { may_go = may_go w whole; goes = goes_on w whole }

pub calm_rounds_are_still : CalmRoundsAreStill
calm_rounds_are_still w whole calm = is_still w whole calm

-- ---- runs

pub one_run : (w : World) (k : ℕ) → run (suc k) w ≡ round (run k w)
unfolding any_run.run
one_run w k = refl

no_run : (w : World) → run 0 w ≡ w
unfolding any_run.run
no_run w = refl

calm_next : (w : World) (k : ℕ) → IsCalm (course w) (suc k) → is_calm (round (run k w)).ring.nodes ≡ true
calm_next w k calm = ap (λ (v : World). is_calm v.ring.nodes) (sym (one_run w k)) ∙ calm

-- the round k + 1 is still where it is calm
run_still : (w : World) (k : ℕ) → IsWhole w → IsCalm (course w) (suc k) → RoundIsStill (run k w)
run_still w k whole calm = is_still (run k w) (whole_run w k whole) (calm_next w k calm)

-- what calm rounds leave stays from a round to the m-th after it, where those are calm
stays : {Y : Type 0} (f : World → Y) → ((v : World) → RoundIsStill v → f (round v) ≡ f v) → (w : World) (j m : ℕ) → IsWhole w
    → ((i : ℕ) → j < i → i ≤ j + m → IsCalm (course w) i) → f (run (j + m) w) ≡ f (run j w)
stays f same w j zero whole calm = ap (λ k. f (run k w)) (let e : j + zero ≡ j = omega arith in e)
stays f same w j (suc m) whole calm =
    let last : j + suc m ≡ suc (j + m) = omega arith in
    let c : IsCalm (course w) (suc (j + m)) = calm (suc (j + m)) (omega arith) (omega arith) in
    ap (λ k. f (run k w)) last
    ∙ ap f (one_run w (j + m))
    ∙ same (run (j + m) w) (run_still w (j + m) whole c)
    ∙ stays f same w j m whole (λ i low high. calm i low (omega arith))

pub requests_stay : (w : World) (j m : ℕ) → IsWhole w → ((i : ℕ) → j < i → i ≤ j + m → IsCalm (course w) i)
    → requests_in (needs_in (run (j + m) w)) ≡ requests_in (needs_in (run j w))
requests_stay w j m whole calm = stays (λ v. requests_in (needs_in v)) (λ v still. still.requests) w j m whole calm

states_stay : (w : World) (j m : ℕ) → IsWhole w → ((i : ℕ) → j < i → i ≤ j + m → IsCalm (course w) i)
    → (signals_of (run (j + m) w)).states ≡ (signals_of (run j w)).states
states_stay w j m whole calm = stays (λ v. (signals_of v).states) (λ v still. still.states) w j m whole calm

-- the nodes are in the settled states after three calm rounds in a row, the first of them the k-th
settled_after : StillRingsAreSettled → (w : World) (k : ℕ) → IsWhole w → IsCalm (course w) (suc k) → IsCalm (course w) (suc (suc k))
    → IsCalm (course w) (suc (suc (suc k)))
    → (signals_of (run (suc (suc (suc k))) w)).states ≡ settled_states (requests_in (needs_in (run (suc (suc (suc k))) w)))
settled_after law w k whole one two three =
    let at = λ (j : ℕ). run j w in
    let goes =
    λ (j : ℕ) (c : IsCalm (course w) (suc j)). ap signals_of (one_run w j)
    ∙ goes_free (at j) (whole_run w j whole) (run_still w j whole c).free
    ∙ ap (λ v. free_round (needs_in v) (signals_of (at j))) (sym (one_run w j)) in
    let none =
    λ (j : ℕ) (c : IsCalm (course w) (suc j)). subst (λ v. ChangesNoWord (needs_in v) (signals_of (at j))) (sym (one_run w j))
    (changes_none (at j) (whole_run w j whole) (calm_next w j c)) in
    let needs = λ (j : ℕ). needs_in (at j) in
    let first = goes k one in
    let second = goes (suc k) two ∙ ap (free_round (needs (suc (suc k)))) first in
    let third = goes (suc (suc k)) three ∙ ap (free_round (needs (suc (suc (suc k))))) second in
    ap (λ (s : Signals). s.states) third
    ∙ law (needs (suc k)) (needs (suc (suc k))) (needs (suc (suc (suc k)))) (signals_of (at k)) (none k one)
    (subst (ChangesNoWord (needs (suc (suc k)))) first (none (suc k) two))
    (subst (ChangesNoWord (needs (suc (suc (suc k))))) second (none (suc (suc k)) three))

pub three_calm_rounds_are_settled : StillRingsAreSettled → ThreeCalmRoundsAreSettled
three_calm_rounds_are_settled law w whole one two three = settled_after law w 0 whole one two three

pub windows_are_settled : StillRingsAreSettled → WindowsAreSettled
windows_are_settled law w k j whole ends low high =
    let long = ends.long in
    let size : length (run k w).ring.ids ≡ length w.ring.ids = ap length (left_run k w).ids in
    let enough = whole.placed.ids.enough in
    let i : ℕ = k - 3 in
    let last : suc (suc (suc i)) ≡ k = omega arith in
    let rest : j + (k - j) ≡ k = omega arith in
    let settled =
    settled_after law w i whole (ends.calm (suc i) (omega arith) (omega arith)) (ends.calm (suc (suc i)) (omega arith) (omega arith))
    (ends.calm (suc (suc (suc i))) (omega arith) (omega arith)) in
    sym (states_stay w j (k - j) whole (λ m after until. ends.calm m (omega arith) (omega arith)))
    ∙ ap (λ m. (signals_of (run m w)).states) (rest ∙ sym last)
    ∙ settled
    ∙ ap (λ m. settled_states (requests_in (needs_in (run m w)))) last

-- ---- a step

pub steps_settle : StillRingsAreSettled → StepsSettle
steps_settle law w left limit whole settles =
    let known = known_settles adm w limit left (inl whole.paired.honest.honest) settles in
    let k = known.0 in
    let ends = known.1 in
    let same : length (run k w).ring.ids ≡ length w.ring.ids = ap length (left_run k w).ids in
    let enough = whole.placed.ids.enough in
    subst IsSettled (sym known.2) (record {
      whole = whole_run w k whole;
      states = windows_are_settled law w k k whole ends.window (omega arith) (omega arith);
    })
