-- The signalling of a ring after six calm rounds: the seventh leaves needs, filters, states and words as they are.
use Rattle.std.proofs.Common.{◌≡◌, ℕ, zero, suc, ◌+◌, ◌<◌, ◌≤◌, true, List, length, map, get_or, refl}
use Rattle.std.proofs.Common.{ap, ap₂, sym, ◌∙◌, subst, arith, inl, inr}
use Rattle.std.proofs.lemmas.Bool.{cases_lt, le-leb}
use Rattle.std.proofs.lemmas.List.{get_or-map}
use Rattle.sdh_ringmap.specs.declared.Side.{Side}
use Rattle.sdh_ringmap.specs.declared.Side.TheVariants.{West, East}
use Rattle.sdh_ringmap.specs.Places.{neighbour, opposite}
use Rattle.sdh_nodestate.specs.declared.Needs.{Needs}
use Rattle.sdh_nodestate.specs.Filtering.{Brought, hears}
use Rattle.sdh_signal.specs.Settled.{settled_states}
use Rattle.sdh_signal.specs.Signals.{Signals, free_round, request_on, no_needs}
use Rattle.sdh_signal.specs.Laws.{StillRingsAreSettled}
use Rattle.sdh_node.specs.Same.{Compared}
use Rattle.sdh_node.specs.Node.{Node, receiving_on, compared, sent_of, last_word_on}
use Rattle.sdh_node.specs.Rings.Held.{nowhere, node_at}
use Rattle.sdh_node.specs.Rings.Rounds.{World, round}
use Rattle.sdh_node.specs.Rings.Runs.{run, course}
use Rattle.sdh_node.specs.Rings.Quiet.{is_calm, IsCalm}
use Rattle.sdh_node.specs.Rings.Sides.{condition_to}
use Rattle.sdh_laws.specs.Hearing.Signalling.{word_to, filters_of, signals_of, needs_in}
use Rattle.sdh_laws.specs.Hearing.Laws.{IsWhole, RoundIsStill}
use Rattle.sdh_laws.proofs.hearing.Changes.{whole_run}
use Rattle.sdh_laws.proofs.hearing.Rounds.{neighbour_inside}
use Rattle.sdh_laws.proofs.hearing.Signalling.{mapped_same, needs_at, goes_free, calm_rounds_are_still, three_calm_rounds_are_settled, same_signals}
use Rattle.sdh_laws.proofs.hearing.Staying.{left_run}
use Rattle.sdh_laws.specs.Carrying.Windows.{AreSettled, span_requests_of}
use Rattle.sdh_laws.proofs.carrying.Applied.{length-requests_of}
use Rattle.sdh_laws.proofs.carrying.Settles.{each_settled}
use Rattle.sdh_laws.proofs.converging.Runs.{length_run, condition_run, nodes_run, inside_run}
use Rattle.sdh_laws.proofs.hearing.Steady.{free_next, IsSteady, steady_two, steady_more, needs_stay}
use Rattle.sdh_laws.proofs.converging.Came.{come_behind, came_after, word_by, word_to_in, kept, earlier_in}
use Rattle.sdh_laws.specs.Restoring.Laws.{NoControllerHeld}
use Rattle.sdh_rounds.specs.Runs as any_run
use Rattle.sdh_rounds.proofs.Terms.{terms}

-- ---- single nodes

pub words_on : (d : Side) (a b : Node) → compared a ≡ compared b → last_word_on d a ≡ last_word_on d b
words_on West a b e = ap (λ (c : Compared). c.west_out.word) e
words_on East a b e = ap (λ (c : Compared). c.east_out.word) e

pub same_at : {Y : Type 0} (f : Node → Y) (xs ys : List Node) (p : ℕ) → p < length xs → p < length ys → map f xs ≡ map f ys
    → f (node_at xs p) ≡ f (node_at ys p)
same_at f xs ys p hx hy e =
    sym (get_or-map f xs p nowhere (f nowhere) hx) ∙ ap (λ l. get_or l p (f nowhere)) e ∙ get_or-map f ys p nowhere (f nowhere) hy

same_brought : (a b : Brought) → a.last ≡ b.last → a.second ≡ b.second → a.third ≡ b.third → a ≡ b
same_brought a b last second third = λ i. record { last = last i; second = second i; third = third i }

-- ---- six calm rounds, and the next one

module _ (law : StillRingsAreSettled) (w : World) (whole : IsWhole w) (calm : (j : ℕ) → 1 ≤ j → j ≤ 6 → IsCalm (course w) j) where
  open terms w use {n}

  pub calm_at : (j : ℕ) → j < 6 → is_calm (round (run j w)).ring.nodes ≡ true
  unfolding any_run.run
  calm_at j h = calm (suc j) (omega arith) (omega arith)

  pub still_at : (j : ℕ) → j < 6 → RoundIsStill (run j w)
  still_at j h = calm_rounds_are_still (run j w) (whole_run w j whole) (calm_at j h)

  pub started : (j : ℕ) → 0 < (run j w).ring.rounds
  started j = let r = (left_run j w).rounds in let s = (still_at 0 (omega arith)).later in let z = (left_run 0 w).rounds in omega arith

  free_last : NoControllerHeld (run 6 w)
  unfolding any_run.run
  free_last = free_next (run 5 w) (whole_run w 5 whole) (still_at 5 (omega arith)).free

  pub free_at : (j : ℕ) → j ≤ 6 → NoControllerHeld (run j w)
  free_at j h = elim (cases_lt j 6) [
    | inl low ↦ (still_at j low).free
    | inr high ↦ subst (λ i. NoControllerHeld (run i w)) (let e : 6 ≡ j = omega arith in e) free_last
  ]

  -- ---- needs

  steady_first : IsSteady (run 2 w)
  unfolding any_run.run
  steady_first = steady_two w whole

  steady_at : (j : ℕ) → IsSteady (run (2 + j) w)
  unfolding any_run.run
  steady_at zero = subst (λ i. IsSteady (run i w)) (let e : 2 ≡ 2 + zero = omega arith in e) steady_first
  steady_at (suc j) =
      subst (λ i. IsSteady (run i w)) (let e : suc (2 + j) ≡ 2 + suc j = omega arith in e) (steady_more (run (2 + j) w) (steady_at j))

  needs_last : needs_in (run 7 w) ≡ needs_in (run 6 w)
  unfolding any_run.run
  needs_last = needs_stay (run 5 w) (subst (λ i. IsSteady (run i w)) (let e : 2 + 3 ≡ 5 = refl in e) (steady_at 3))

  pub request_stays : (p : ℕ) (d : Side) → p < length w.ring.nodes
      → (receiving_on d (node_at (run 7 w).ring.nodes p)).request ≡ (receiving_on d (node_at (run 6 w).ring.nodes p)).request
  unfolding needs_in
  request_stays p d h =
      sym (needs_at (run 7 w).ring.nodes p d (inside_run w 7 p h)) ∙ ap (λ (l : List Needs). request_on (get_or l p no_needs) d) needs_last
      ∙ needs_at (run 6 w).ring.nodes p d (inside_run w 6 p h)

  -- ---- words, and what comes of them

  word_stays : (k p : ℕ) (d : Side) → k < 6 → p < length w.ring.nodes
      → last_word_on d (node_at (run (suc k) w).ring.nodes p) ≡ last_word_on d (node_at (run k w).ring.nodes p)
  unfolding any_run.run
  word_stays k p d low h =
      words_on d (node_at (round (run k w)).ring.nodes p) (node_at (run k w).ring.nodes p) ((still_at k low).same p (inside_run w k p h))

  word_to_stays : (k p : ℕ) (d : Side) → k < 6 → word_to (run (suc k) w) p d ≡ word_to (run k w) p d
  word_to_stays k p d low =
      word_to_in w (suc k) p d ∙ word_stays k (neighbour n p d) (opposite d) low (neighbour_inside w whole p d) ∙ sym (word_to_in w k p d)

  came_in : (k p : ℕ) (d : Side) → p < length w.ring.nodes → (kept w (suc k) p d).last
      ≡ come_behind (condition_to w p d) (word_to (run k w) p d)
  unfolding any_run.run
  came_in k p d h =
      came_after (run k w) (whole_run w k whole) p d (inside_run w k p h) (started k)
      ∙ ap (λ c. come_behind c (word_to (run k w) p d)) (condition_run w k p d)

  -- round k + 2 brings what round k + 1 did
  last_stays : (k p : ℕ) (d : Side) → k < 6 → p < length w.ring.nodes → (kept w (suc (suc k)) p d).last ≡ (kept w (suc k) p d).last
  last_stays k p d low h = came_in (suc k) p d h ∙ ap (come_behind (condition_to w p d)) (word_to_stays k p d low) ∙ sym (came_in k p d h)

  second_stays : (k p : ℕ) (d : Side) → k < 6 → p < length w.ring.nodes
      → (kept w (suc (suc (suc k))) p d).second ≡ (kept w (suc (suc k)) p d).second
  second_stays k p d low h =
      ap (λ (b : Brought). b.second) (earlier_in w whole (suc (suc k)) p d h) ∙ last_stays k p d low h
      ∙ sym (ap (λ (b : Brought). b.second) (earlier_in w whole (suc k) p d h))

  third_stays : (k p : ℕ) (d : Side) → k < 6 → p < length w.ring.nodes
      → (kept w (suc (suc (suc (suc k)))) p d).third ≡ (kept w (suc (suc (suc k))) p d).third
  third_stays k p d low h =
      ap (λ (b : Brought). b.third) (earlier_in w whole (suc (suc (suc k))) p d h) ∙ second_stays k p d low h
      ∙ sym (ap (λ (b : Brought). b.third) (earlier_in w whole (suc (suc k)) p d h))

  -- what was kept after round 5 is kept after rounds 6 and 7
  kept_stays : (k p : ℕ) (d : Side) → k < 4 → p < length w.ring.nodes → kept w (suc (suc (suc (suc k)))) p d ≡ kept w (suc (suc (suc k))) p d
  kept_stays k p d low h =
      same_brought _ _ (last_stays (suc (suc k)) p d (omega arith) h) (second_stays (suc k) p d (omega arith) h)
      (third_stays k p d (omega arith) h)

  pub heard_stays : (p : ℕ) (d : Side) → p < length w.ring.nodes → hears (kept w 7 p d) ≡ hears (kept w 6 p d)
  heard_stays p d h = ap hears (kept_stays 3 p d (omega arith) h)

  -- ---- the ring of signals stands still

  filters_same : (p : ℕ) → p < length w.ring.nodes → filters_of (node_at (run 6 w).ring.nodes p)
      ≡ filters_of (node_at (run 5 w).ring.nodes p)
  filters_same p h =
      (let west = kept_stays 2 p West (omega arith) h in let east = kept_stays 2 p East
      (omega arith) h in λ i. record { west = west i; east = east i })

  ids_same : (signals_of (run 6 w)).ids ≡ (signals_of (run 5 w)).ids
  unfolding signals_of
  ids_same = (left_run 6 w).ids ∙ sym (left_run 5 w).ids

  states_same : (signals_of (run 6 w)).states ≡ (signals_of (run 5 w)).states
  unfolding any_run.run
  states_same = (still_at 5 (omega arith)).states

  words_same : (signals_of (run 6 w)).words ≡ (signals_of (run 5 w)).words
  unfolding any_run.run
  words_same = (still_at 5 (omega arith)).words

  all_filters_same : (signals_of (run 6 w)).filters ≡ (signals_of (run 5 w)).filters
  unfolding signals_of
  all_filters_same =
      mapped_same filters_of (run 6 w).ring.nodes (run 5 w).ring.nodes (nodes_run w whole 6 ∙ sym (nodes_run w whole 5))
      (λ p h. filters_same p (omega (arith, length_run w 6)))

  running_same : (signals_of (run 6 w)).running ≡ (signals_of (run 5 w)).running
  unfolding signals_of
  running_same = le-leb 1 (run 6 w).ring.rounds (started 6) ∙ sym (le-leb 1 (run 5 w).ring.rounds (started 5))

  signals_same : signals_of (run 6 w) ≡ signals_of (run 5 w)
  signals_same = same_signals (signals_of (run 6 w)) (signals_of (run 5 w)) ids_same states_same words_same all_filters_same running_same

  next_signals : (j : ℕ) → j ≤ 6 → signals_of (run (suc j) w) ≡ free_round (needs_in (run (suc j) w)) (signals_of (run j w))
  unfolding any_run.run
  next_signals j h = goes_free (run j w) (whole_run w j whole) (free_at j h)

  signals_last : signals_of (run 7 w) ≡ signals_of (run 6 w)
  signals_last = next_signals 6 (omega arith) ∙ ap₂ free_round needs_last signals_same ∙ sym (next_signals 5 (omega arith))

  pub word_last : (p : ℕ) (d : Side) → p < length w.ring.nodes
      → last_word_on d (node_at (run 7 w).ring.nodes p) ≡ last_word_on d (node_at (run 6 w).ring.nodes p)
  unfolding signals_of
  word_last p d h =
      word_by (node_at (run 7 w).ring.nodes p) d (node_at (run 6 w).ring.nodes p)
      (same_at sent_of (run 7 w).ring.nodes (run 6 w).ring.nodes p (inside_run w 7 p h) (inside_run w 6 p h)
      (ap (λ (s : Signals). s.words) signals_last))

  -- ---- states

  states_first : (j : ℕ) → j ≤ 6 → (signals_of (run j w)).states ≡ (signals_of (run 0 w)).states
  unfolding any_run.run
  states_first zero h = refl
  states_first (suc j) h = (still_at j (omega arith)).states ∙ states_first j (omega arith)

  states_third : (signals_of (run 3 w)).states ≡ settled_states (span_requests_of (run 3 w))
  states_third =
      three_calm_rounds_are_settled law w whole (calm 1 (omega arith) (omega arith)) (calm 2 (omega arith) (omega arith))
      (calm 3 (omega arith) (omega arith))

  states_at : (j : ℕ) → j ≤ 7 → (signals_of (run j w)).states ≡ settled_states (span_requests_of (run 3 w))
  states_at j h = elim (cases_lt j 7) [
    | inl low ↦ states_first j (omega arith) ∙ sym (states_first 3 (omega arith)) ∙ states_third
    | inr high ↦ ap (λ i. (signals_of (run i w)).states) (let e : j ≡ 7 = omega arith in e) ∙ ap (λ (s : Signals). s.states) signals_last
        ∙ states_first 6 (omega arith) ∙ sym (states_first 3 (omega arith)) ∙ states_third
  ]

  pub settled_at : (j : ℕ) → j ≤ 7 → AreSettled n (span_requests_of (run 3 w)) (run j w)
  settled_at j h =
      each_settled (run j w) n (span_requests_of (run 3 w)) (nodes_run w whole j) (length-requests_of (run 3 w) n (nodes_run w whole 3)) (states_at j h)

  pub spans_are : length (span_requests_of (run 3 w)) ≡ n
  spans_are = length-requests_of (run 3 w) n (nodes_run w whole 3)
