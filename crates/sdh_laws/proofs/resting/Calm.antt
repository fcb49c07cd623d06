-- Six calm rounds are followed by a calm one: what goes into each AU-4 stays, and so do all interpreters and
-- generators.
use Rattle.std.proofs.Common.{◌≡◌, ℕ, zero, suc, ◌+◌, ◌-◌, ◌<◌, ◌≤◌, Bool, true, false, List, length, get_or, Option, Some, None, refl}
use Rattle.std.proofs.Common.{ap, ap₂, sym, ◌∙◌, subst, arith, inl, inr}
use Rattle.std.specs.Prelude.{option_map, All}
use Rattle.std.proofs.lemmas.Bool.{cases_lt}
use Rattle.std.proofs.lemmas.List.{ext_get_or}
use Rattle.sdh_ringmap.specs.Rates.{n_of}
use Rattle.sdh_ringmap.specs.declared.Side.{Side}
use Rattle.sdh_ringmap.specs.Places.{neighbour, opposite}
use Rattle.sdh_circuits.specs.declared.PortId.{PortId}
use Rattle.sdh_circuits.specs.Provisioning.{AreCircuits, HasOffsets}
use Rattle.sdh_payload.specs.declared.chunk.ChunkForm.TheVariants.{Plain}
use Rattle.sdh_payload.specs.Clock.{Clock, next_form, ticked, ticks}
use Rattle.sdh_payload.proofs.Clocking.{goes_plain, plain_tick}
use Rattle.sdh_bridge.specs.declared.Origin.{Origin}
use Rattle.sdh_bridge.specs.declared.Origin.TheVariants.{Add, Working, Protection, Ais}
use Rattle.sdh_nodestate.specs.declared.NodeState.{NodeState}
use Rattle.sdh_signal.specs.Settled.{settled}
use Rattle.sdh_signal.specs.Laws.{StillRingsAreSettled}
use Rattle.sdh_signal.specs.Walks.{IsOver, IsArrival, back_from, working_in, protection_in}
use Rattle.sdh_signal.specs.Rounds.{Spreads}
use Rattle.sdh_signal.proofs.Spread.{steadiness_spreads}
use Rattle.sdh_pointer.specs.declared.reading.Reading.{Reading}
use Rattle.sdh_pointer.specs.declared.reading.Action.{Action}
use Rattle.sdh_pointer.specs.Reading.{start, after_word, action_on}
use Rattle.sdh_pointer.specs.Sending.{next_sending}
use Rattle.sdh_ringmap.specs.Fibres.{is_cut}
use Rattle.sdh_terminal.specs.Passing.{Input}
use Rattle.sdh_terminal.specs.Tributaries.{action_of}
use Rattle.sdh_node.specs.Node.{is_held}
use Rattle.sdh_node.specs.Rings.Held.{node_at, AtEach}
use Rattle.sdh_node.specs.Rings.Rounds.{World, round}
use Rattle.sdh_node.specs.Rings.Runs.{run, course}
use Rattle.sdh_node.specs.Rings.Quiet.{is_calm, IsCalm}
use Rattle.sdh_node.specs.Rings.Sides.{condition_to}
use Rattle.sdh_laws.specs.Hearing.Laws.{IsWhole}
use Rattle.sdh_laws.proofs.hearing.Changes.{whole_run}
use Rattle.sdh_laws.proofs.hearing.Nodes.{count}
use Rattle.sdh_laws.specs.Carrying.Windows.{Layout, layout_of, slots_of, HasCircuits, AreSettled, span_requests_of}
use Rattle.sdh_laws.proofs.carrying.Clocks.{form_there, goes_plain as port_goes_plain}
use Rattle.sdh_laws.proofs.carrying.Spans.{generators_on, readings_on}
use Rattle.sdh_spans.specs.Spans.{word_behind}
use Rattle.sdh_laws.proofs.carrying.Ways.{layout_run}
use Rattle.sdh_laws.specs.Converging.Steady.{went, brought_to, brought_in_slot}
use Rattle.sdh_laws.proofs.converging.Calming.{AreSame, calm_round}
use Rattle.sdh_laws.proofs.converging.Runs.{length_run, rate_run, run_more, inside_run}
use Rattle.sdh_laws.proofs.converging.Spans.{sending_in, reading_in, word_in, Takes, generator_goes, interpreter_goes}
use Rattle.sdh_laws.proofs.converging.Spreading.{two_halves, working_goes, protection_goes, protection_comes, inside_of, beside}
use Rattle.sdh_laws.proofs.converging.Spreading.{generators_many, readings_many}
use Rattle.sdh_laws.proofs.resting.Pointers.{IsEven, IsEvenWord, state_word, sends_state, sends_even, IsGood, good_answers, good_behind}
use Rattle.sdh_laws.proofs.converging.Ports.{clock_there, clock_next}
use Rattle.sdh_laws.proofs.resting.Clocks.{goes_five, form_by, added_so, none_added, clock_bounds}
use Rattle.sdh_laws.proofs.resting.Signals.{calm_at, still_at, started, free_at, request_stays, heard_stays, word_last}
use Rattle.sdh_laws.proofs.resting.Signals.{settled_at, spans_are}
use Rattle.sdh_rounds.specs.Runs as any_run
use Rattle.sdh_rounds.proofs.Terms.{terms}

even_as : (a b : Action) (v u : ℕ) → a ≡ b → v ≡ u → IsEven b u → IsEven a v
even_as a b v u ea ev (inl e) = inl (ea ∙ e)
even_as a b v u ea ev (inr e) = inr (ea ∙ e.0, omega (arith, e.1))

-- two inputs have equal actions and values
abbrev SameInput : Input → Input → Type 0
SameInput i j = (i.action ≡ j.action) × (i.value ≡ j.value)

module _ (law : StillRingsAreSettled) (w : World) (whole : IsWhole w) (form : HasCircuits (layout_of w))
    (calm : (j : ℕ) → 1 ≤ j → j ≤ 6 → IsCalm (course w) j) where
  open terms w use {n}

  abbrev many : ℕ
  many = n_of w.ring.settings.rate

  abbrev half : ℕ
  half = slots_of (layout_of w)

  open terms w use {cs}

  abbrev rs : List ℕ
  rs = span_requests_of (run 3 w)

  abbrev state : ℕ → NodeState
  state = settled rs

  settled_now : (j : ℕ) → j ≤ 7 → AreSettled n rs (run j w)
  settled_now j h = settled_at law w whole calm j h

  free_now : (j : ℕ) → j ≤ 6 → AtEach (λ p m. is_held m ≡ false) (run j w).ring.nodes
  free_now j h = free_at law w whole calm j h

  -- ---- what six calm rounds leave

  pub sending_kept : (p : ℕ) (d : Side) (i j : ℕ) → p < length w.ring.nodes → j < 6 → sending_in w p d i (suc j) ≡ sending_in w p d i j
  unfolding any_run.run
  sending_kept p d i j h low =
      ap (λ l. get_or l i None) (generators_on d (node_at (round (run j w)).ring.nodes p) (node_at (run j w).ring.nodes p)
      ((still_at law w whole calm j low).same p (inside_run w j p h)))

  pub reading_kept : (p : ℕ) (d : Side) (i j : ℕ) → p < length w.ring.nodes → j < 6 → reading_in w p d i (suc j) ≡ reading_in w p d i j
  unfolding any_run.run
  reading_kept p d i j h low =
      ap (λ l. get_or l i start) (readings_on d (node_at (round (run j w)).ring.nodes p) (node_at (run j w).ring.nodes p)
      ((still_at law w whole calm j low).same p (inside_run w j p h)))

  reading_first : (p : ℕ) (d : Side) (i j : ℕ) → p < length w.ring.nodes → j ≤ 6 → reading_in w p d i j ≡ reading_in w p d i 0
  reading_first p d i zero h low = refl
  reading_first p d i (suc j) h low = reading_kept p d i j h (omega arith) ∙ reading_first p d i j h (omega arith)

  -- the word that comes to an interpreter in round j + 1
  abbrev pub behind : ℕ → Side → ℕ → ℕ → ℕ
  behind p d i j = word_behind (is_cut (condition_to w p d)) (word_in w (neighbour n p d) (opposite d) i j)

  pub takes : (p : ℕ) (d : Side) (i j : ℕ) → p < n → i < many → j ≤ 6 → Takes w p d i (suc j) (behind p d i j)
  takes p d i j h few low = interpreter_goes w whole p d i j (inside_of w whole p h) few

  -- ---- ports that fill an AU-4

  pub record Fills (q m : ℕ) (id : PortId) : Type 0 where
    pub side : Side
    pub au : ℕ
    pub low : 1 ≤ au
    pub high : au ≤ many
    pub goes : (j : ℕ) → j ≤ 6 → went w q side au j ≡ brought_in_slot w q m (Add id) j

  plain_at : (q m : ℕ) (id : PortId) → q < n → Fills q m id → (j : ℕ) → j ≤ 4 → form_there (run (suc j) w) q id ≡ Plain
  unfolding any_run.run
  plain_at q m id h f j low =
      port_goes_plain (run j w) (whole_run w j whole) q f.side f.au m id (inside_run w j q (inside_of w whole q h)) f.low
      (let r = rate_run w j in let t = f.high in omega arith)
      (f.goes j (omega arith)) (f.goes (suc j) (omega arith)) (calm_at law w whole calm (suc j) (omega arith))

  clock_at_round : (q : ℕ) (id : PortId) (c : Clock) → q < n → clock_there (run 1 w) q id ≡ Some c → (j : ℕ)
      → clock_there (run (suc j) w) q id ≡ Some (ticks j c)
  unfolding any_run.run ticks
  clock_at_round q id c h e zero = e
  clock_at_round q id c h e (suc j) =
      clock_next (run (suc j) w) (whole_run w (suc j) whole) q id (inside_run w (suc j) q (inside_of w whole q h))
      ∙ ap (option_map ticked) (clock_at_round q id c h e j)

  no_clock : (q : ℕ) (id : PortId) → q < n → clock_there (run 1 w) q id ≡ None → (j : ℕ) → clock_there (run (suc j) w) q id ≡ None
  unfolding any_run.run
  no_clock q id h e zero = e
  no_clock q id h e (suc j) =
      clock_next (run (suc j) w) (whole_run w (suc j) whole) q id (inside_run w (suc j) q (inside_of w whole q h))
      ∙ ap (option_map ticked) (no_clock q id h e j)

  module _ (q m : ℕ) (id : PortId) (h : q < n) (f : Fills q m id) where
    abbrev first : Option Clock
    first = clock_there (run 1 w) q id

    forms : (c : Clock) → first ≡ Some c → (j : ℕ) → j ≤ 4 → next_form (ticks j c) ≡ Plain
    forms c e j low = sym (form_by (run (suc j) w) q id (ticks j c) (clock_at_round q id c h e j)) ∙ plain_at q m id h f j low

    bounds : (c : Clock) → first ≡ Some c → (j : ℕ) → ((ticks j c).value ≤ 782) × ((ticks j c).rest ≤ 4)
    bounds c e j =
        clock_bounds (run (suc j) w) (whole_run w (suc j) whole)
        (subst (λ (l : Layout). All HasOffsets l.circuits) (sym (layout_run w (suc j))) form.offsets) q id (ticks j c)
        (inside_run w (suc j) q (inside_of w whole q h)) (clock_at_round q id c h e j)

    even_by : (o : Option Clock) → first ≡ o → (j : ℕ) → j ≤ 4
        → IsEven (brought_in_slot w q m (Add id) (suc j)).action (brought_in_slot w q m (Add id) (suc j)).value
    unfolding ticks
    even_by None e j low = inl (ap (λ (i : Input). i.action) (none_added (run (suc j) w) q m id (no_clock q id h e j)))
    even_by (Some c) e j low =
        let a = added_so (run (suc j) w) q m id (ticks j c) (clock_at_round q id c h e j) in
        let b = (bounds c e (suc j)).0 in
        inr (a.0 ∙ ap action_of (forms c e j low), omega (arith, a.1, b))

    even_add : (j : ℕ) → j ≤ 4 → IsEven (brought_in_slot w q m (Add id) (suc j)).action (brought_in_slot w q m (Add id) (suc j)).value
    even_add j low = even_by (clock_there (run 1 w) q id) refl j low

    same_by : (o : Option Clock) → first ≡ o → SameInput (brought_in_slot w q m (Add id) 6) (brought_in_slot w q m (Add id) 5)
    unfolding ticks
    same_by None e =
        let last = none_added (run 6 w) q m id (no_clock q id h e 5) in
        let before = none_added (run 5 w) q m id (no_clock q id h e 4) in
        (ap (λ (i : Input). i.action) (last ∙ sym before), ap (λ (i : Input). i.value) (last ∙ sym before))
    same_by (Some c) e =
        let before = added_so (run 5 w) q m id (ticks 4 c) (clock_at_round q id c h e 4) in
        let last = added_so (run 6 w) q m id (ticks 5 c) (clock_at_round q id c h e 5) in
        let none = goes_five c (bounds c e 0).1 (forms c e) in
        let t4 = plain_tick (ticks 4 c) none in
        let t5 = plain_tick (ticks 5 c) t4.0 in (
          last.0 ∙ ap action_of (goes_plain (ticks 5 c) t4.0) ∙ sym (ap action_of (goes_plain (ticks 4 c) none)) ∙ sym before.0,
          last.1
              ∙ t5.1 ∙ sym before.1,
        )

    same_add : SameInput (brought_in_slot w q m (Add id) 6) (brought_in_slot w q m (Add id) 5)
    same_add = same_by (clock_there (run 1 w) q id) refl

  -- ---- what is brought

  -- what an interpreter keeps that calm rounds don't move is good, where something arrives there
  abbrev Good : ℕ → ℕ → Origin → Type 0
  Good m p Ais = Unit {0}
  Good m p (Add id) = Unit {0}
  Good m p (Working d) = IsGood (reading_in w p d (m - 1) 0)
  Good m p (Protection d) = IsGood (reading_in w p d (half + m - 1) 0)

  even_came : (p : ℕ) (d : Side) (i j : ℕ) → p < n → i < many → j ≤ 4 → IsGood (reading_in w p d i 0)
      → IsEven (brought_to w p d (i + 1) (suc j)).action (brought_to w p d (i + 1) (suc j)).value
  even_came p d i j h few low good =
      let t = takes p d i j h few (omega arith) in
      let here = inside_of w whole p h in
      let kept = reading_kept p d i (suc j) here (omega arith) in
      even_as (brought_to w p d (i + 1) (suc j)).action (action_on (reading_in w p d i (suc j)) (behind p d i j))
      (brought_to w p d (i + 1) (suc j)).value (reading_in w p d i (suc j)).value
      t.action (t.value ∙ ap (λ (r : Reading). r.value) kept)
      (good_answers (reading_in w p d i (suc j)) (behind p d i j) (subst IsGood (sym (reading_first p d i (suc j) here (omega arith))) good)
      (sym t.reading ∙ kept))

  halves : half + half ≡ many
  halves = two_halves w.ring.settings.rate

  module _ (m : ℕ) (low : 1 ≤ m) (high : m ≤ half) where
    there : m - 1 + 1 ≡ m
    there = omega arith

    behind_half : half + m - 1 + 1 ≡ half + m
    behind_half = omega arith

    goes_working : (q j : ℕ) (e : Side) → q < n → j ≤ 6 → went w q e m j ≡ brought_in_slot w q m (working_in n cs q (state q) e m) j
    goes_working q j e h late = working_goes w whole q m j e (state q) h high (settled_now (suc j) (omega arith) q h)

    goes_protection : (q j : ℕ) (e : Side) → q < n → j ≤ 6 → went w q e (half + m) j ≡ brought_in_slot w q m (protection_in n cs q (state q) e m) j
    goes_protection q j e h late = protection_goes w whole q m j e (state q) h low (settled_now (suc j) (omega arith) q h)

    fills_working : (q : ℕ) (e : Side) (id : PortId) → q < n → working_in n cs q (state q) e m ≡ Add id → Fills q m id
    fills_working q e id h is = record {
      side = e;
      au = m;
      low = low;
      high = omega (arith, halves);
      goes = λ j late. goes_working q j e h late ∙ ap (λ o. brought_in_slot w q m o j) is;
    }

    fills_protection : (q : ℕ) (e : Side) (id : PortId) → q < n → protection_in n cs q (state q) e m ≡ Add id → Fills q m id
    fills_protection q e id h is = record {
      side = e;
      au = half + m;
      low = omega arith;
      high = omega (arith, halves);
      goes = λ j late. goes_protection q j e h late ∙ ap (λ o. brought_in_slot w q m o j) is;
    }

    even_brought : (p : ℕ) (o : Origin) (j : ℕ) → p < n → j ≤ 4 → ((id : PortId) → o ≡ Add id → Fills p m id) → Good m p o
        → IsEven (brought_in_slot w p m o (suc j)).action (brought_in_slot w p m o (suc j)).value
    even_brought p Ais j h late fills good = inl refl
    even_brought p (Add id) j h late fills good = even_add p m id h (fills id refl) j late
    even_brought p (Working d) j h late fills good =
        subst (λ a. IsEven (brought_to w p d a (suc j)).action (brought_to w p d a (suc j)).value) there
        (even_came p d (m - 1) j h (omega (arith, halves)) late good)
    even_brought p (Protection d) j h late fills good =
        subst (λ (i : Input). IsEven i.action i.value) (sym (protection_comes w whole p m (suc j) d h))
        (subst (λ a. IsEven (brought_to w p d a (suc j)).action (brought_to w p d a (suc j)).value) behind_half
        (even_came p d (half + m - 1) j h (omega (arith, halves)) late good))

    even_working : (q j : ℕ) (e : Side) → q < n → j ≤ 4 → Good m q (working_in n cs q (state q) e m)
        → IsEven (went w q e m (suc j)).action (went w q e m (suc j)).value
    even_working q j e h late good =
        subst (λ (i : Input). IsEven i.action i.value) (sym (goes_working q (suc j) e h (omega arith)))
        (even_brought q (working_in n cs q (state q) e m) j h late (λ id is. fills_working q e id h is) good)

    even_protection : (q j : ℕ) (e : Side) → q < n → j ≤ 4 → Good m q (protection_in n cs q (state q) e m)
        → IsEven (went w q e (half + m) (suc j)).action (went w q e (half + m) (suc j)).value
    even_protection q j e h late good =
        subst (λ (i : Input). IsEven i.action i.value) (sym (goes_protection q (suc j) e h (omega arith)))
        (even_brought q (protection_in n cs q (state q) e m) j h late (λ id is. fills_protection q e id h is) good)

  -- ---- over a span

  -- a generator that a calm round leaves in its state is led there by what goes into its AU-4
  state_still : (q : ℕ) (e : Side) (i j : ℕ) → q < n → i < many → j < 6
      → next_sending (sending_in w q e i j) (went w q e (i + 1) j).action (went w q e (i + 1) j).value ≡ sending_in w q e i j
  state_still q e i j h few low =
      sym (generator_goes w whole q e i j (inside_of w whole q h) few) ∙ sending_kept q e i j (inside_of w whole q h) low

  behind_even : (cut : Bool) (x : ℕ) → IsEvenWord x → IsEvenWord (word_behind cut x)
  behind_even true x even = inl refl
  behind_even false x even = even

  good_over : (p : ℕ) (d : Side) (i : ℕ) → p < n → i < many
      → IsEven (went w (neighbour n p d) (opposite d) (i + 1) 1).action (went w (neighbour n p d) (opposite d) (i + 1) 1).value
      → IsGood (reading_in w p d i 0)
  good_over p d i h few even =
      let q = neighbour n p d in
      let e = opposite d in
      let inside = beside w whole p d in
      let here = inside_of w whole p h in
      let t = takes p d i 1 h few (omega arith) in
      let word =
      sends_even (sending_in w q e i 1) (went w q e (i + 1) 1).action (went w q e (i + 1) 1).value even
      (state_still q e i 1 inside few (omega arith)) in
      subst IsGood (reading_first p d i 2 here (omega arith))
      (good_behind (reading_in w p d i 2) (behind p d i 1) (behind_even (is_cut (condition_to w p d)) (word_in w q e i 1) word)
      (sym t.reading ∙ reading_kept p d i 2 here (omega arith)))

  module _ (m : ℕ) (low : 1 ≤ m) (high : m ≤ half) where
    good_span : (p : ℕ) (o : Origin) → p < n → IsArrival o → (let b = back_from n state cs m p o in Good m b.at b.origin → Good m p o)
    good_span p Ais h arrives good = absurd arrives
    good_span p (Add id) h arrives good = absurd arrives
    good_span p (Working d) h arrives good =
        let q = neighbour n p d in
        good_over p d (m - 1) h (omega (arith, halves))
        (subst (λ a. IsEven (went w q (opposite d) a 1).action (went w q (opposite d) a 1).value) (sym (there m low high))
        (even_working m low high q 0 (opposite d) (beside w whole p d) (omega arith) good))
    good_span p (Protection d) h arrives good =
        let q = neighbour n p d in
        good_over p d (half + m - 1) h (omega (arith, halves))
        (subst (λ a. IsEven (went w q (opposite d) a 1).action (went w q (opposite d) a 1).value) (sym (behind_half m low high))
        (even_protection m low high q 0 (opposite d) (beside w whole p d) (omega arith) good))

    good_end : (p : ℕ) (o : Origin) → IsOver o → Good m p o
    good_end p Ais over = tt
    good_end p (Add id) over = tt
    good_end p (Working d) over = absurd over
    good_end p (Protection d) over = absurd over

    spreads : Spreads n state cs m (λ t p o. Good m p o) 0 0
    spreads = record {
      starts = λ p o h over. good_end p o over;
      later = λ t u p o late good. good;
      over_span = λ t p o h arrives late good. good_span p o h arrives good;
    }

    all_good : (p : ℕ) (o : Origin) → p < n → Good m p o
    all_good p o h =
        let same = spans_are law w whole calm in
        steadiness_spreads rs half cs (subst (λ k. AreCircuits k half cs) (sym same) form) m (λ t p o. Good m p o) 0 0
        (subst (λ k. Spreads k (settled rs) cs m (λ t p o. Good m p o) 0 0) (sym same) spreads) p o (omega (arith, same))

  -- ---- all AU-4s

  pub even_went : (q : ℕ) (e : Side) (i j : ℕ) → q < n → i < many → j ≤ 4
      → IsEven (went w q e (i + 1) (suc j)).action (went w q e (i + 1) (suc j)).value
  even_went q e i j h few late = elim (cases_lt half (i + 1)) [
    | inr small ↦ even_working (i + 1) (omega arith) small q j e h late
        (all_good (i + 1) (omega arith) small q (working_in n cs q (state q) e (i + 1)) h)
    | inl large ↦ (
        let m = i + 1 - half in
        let one : 1 ≤ m = omega arith in
        let most : m ≤ half = omega (arith, halves) in
        let at : half + m ≡ i + 1 = omega arith in
        subst (λ a. IsEven (went w q e a (suc j)).action (went w q e a (suc j)).value) at
        (even_protection m one most q j e h late (all_good m one most q (protection_in n cs q (state q) e m) h)))
  ]

  pub word_state : (q : ℕ) (e : Side) (i j : ℕ) → q < n → i < many → j ≤ 4 → word_in w q e i (suc j) ≡ state_word (sending_in w q e i (suc j))
  word_state q e i j h few late =
      sends_state (sending_in w q e i (suc j)) (went w q e (i + 1) (suc j)).action (went w q e (i + 1) (suc j)).value
      (even_went q e i j h few late) (state_still q e i (suc j) h few (omega arith))

  -- rounds 4 and 5 send one word
  word_kept : (q : ℕ) (e : Side) (i : ℕ) → q < n → i < many → word_in w q e i 5 ≡ word_in w q e i 4
  word_kept q e i h few =
      word_state q e i 4 h few (omega arith) ∙ ap state_word (sending_kept q e i 4 (inside_of w whole q h) (omega arith))
      ∙ sym (word_state q e i 3 h few (omega arith))

  behind_kept : (p : ℕ) (d : Side) (i : ℕ) → p < n → i < many → behind p d i 5 ≡ behind p d i 4
  behind_kept p d i h few =
      ap (word_behind (is_cut (condition_to w p d))) (word_kept (neighbour n p d) (opposite d) i (beside w whole p d) few)

  reading_last : (p : ℕ) (d : Side) (i : ℕ) → p < n → i < many → reading_in w p d i 7 ≡ reading_in w p d i 6
  reading_last p d i h few =
      let last = takes p d i 5 h few (omega arith) in
      let before = takes p d i 4 h few (omega arith) in
      last.reading ∙ ap₂ after_word (reading_kept p d i 5 (inside_of w whole p h) (omega arith)) (behind_kept p d i h few)
      ∙ sym before.reading

  came_same : (p : ℕ) (d : Side) (i : ℕ) → p < n → i < many → SameInput (brought_to w p d (i + 1) 6) (brought_to w p d (i + 1) 5)
  came_same p d i h few =
      let last = takes p d i 5 h few (omega arith) in
      let before = takes p d i 4 h few (omega arith) in (
        last.action ∙ ap₂ action_on (reading_kept p d i 5 (inside_of w whole p h) (omega arith)) (behind_kept p d i h few)
            ∙ sym before.action,
        last.value ∙ ap (λ (r : Reading). r.value) (reading_last p d i h few) ∙ sym before.value,
      )

  module _ (m : ℕ) (low : 1 ≤ m) (high : m ≤ half) where
    brought_same : (p : ℕ) (o : Origin) → p < n → ((id : PortId) → o ≡ Add id → Fills p m id)
        → SameInput (brought_in_slot w p m o 6) (brought_in_slot w p m o 5)
    brought_same p Ais h fills = (refl, refl)
    brought_same p (Add id) h fills = same_add p m id h (fills id refl)
    brought_same p (Working d) h fills =
        subst (λ a. SameInput (brought_to w p d a 6) (brought_to w p d a 5)) (there m low high) (came_same p d (m - 1) h (omega (arith, halves)))
    brought_same p (Protection d) h fills =
        subst (λ (i : Input). SameInput i (brought_in_slot w p m (Protection d) 5)) (sym (protection_comes w whole p m 6 d h))
        (subst (λ (i : Input). SameInput (brought_to w p d (half + m) 6) i) (sym (protection_comes w whole p m 5 d h))
        (subst (λ a. SameInput (brought_to w p d a 6) (brought_to w p d a 5)) (behind_half m low high)
        (came_same p d (half + m - 1) h (omega (arith, halves)))))

    same_working : (q : ℕ) (e : Side) → q < n → SameInput (went w q e m 6) (went w q e m 5)
    same_working q e h =
        let o = working_in n cs q (state q) e m in
        subst (λ (i : Input). SameInput i (went w q e m 5)) (sym (goes_working m low high q 6 e h (omega arith)))
        (subst (λ (i : Input). SameInput (brought_in_slot w q m o 6) i) (sym (goes_working m low high q 5 e h (omega arith)))
        (brought_same q o h (λ id is. fills_working m low high q e id h is)))

    same_protection : (q : ℕ) (e : Side) → q < n → SameInput (went w q e (half + m) 6) (went w q e (half + m) 5)
    same_protection q e h =
        let o = protection_in n cs q (state q) e m in
        subst (λ (i : Input). SameInput i (went w q e (half + m) 5)) (sym (goes_protection m low high q 6 e h (omega arith)))
        (subst (λ (i : Input). SameInput (brought_in_slot w q m o 6) i) (sym (goes_protection m low high q 5 e h (omega arith)))
        (brought_same q o h (λ id is. fills_protection m low high q e id h is)))

  went_same : (q : ℕ) (e : Side) (i : ℕ) → q < n → i < many → SameInput (went w q e (i + 1) 6) (went w q e (i + 1) 5)
  went_same q e i h few = elim (cases_lt half (i + 1)) [
    | inr small ↦ same_working (i + 1) (omega arith) small q e h
    | inl large ↦ (
        let m = i + 1 - half in
        let at : half + m ≡ i + 1 = omega arith in
        subst (λ a. SameInput (went w q e a 6) (went w q e a 5)) at (same_protection m (omega arith) (omega (arith, halves)) q e h))
  ]

  sending_last : (q : ℕ) (e : Side) (i : ℕ) → q < n → i < many → sending_in w q e i 7 ≡ sending_in w q e i 6
  sending_last q e i h few =
      let here = inside_of w whole q h in
      let same = went_same q e i h few in
      generator_goes w whole q e i 6 here few
      ∙ ap (λ s. next_sending s (went w q e (i + 1) 6).action (went w q e (i + 1) 6).value) (sending_kept q e i 5 here (omega arith))
      ∙ ap₂ (λ a v. next_sending (sending_in w q e i 5) a v) same.0 same.1
      ∙ sym (generator_goes w whole q e i 5 here few)

  -- ---- the next round is calm

  same_nodes : (p : ℕ) → p < length w.ring.nodes → AreSame (node_at (run 7 w).ring.nodes p) (node_at (run 6 w).ring.nodes p)
  same_nodes p h =
      let low : p < n = omega (arith, count w whole.placed) in
      record {
        state = settled_now 7 (omega arith) p low ∙ sym (settled_now 6 (omega arith) p low);
        request = λ d. request_stays law w whole calm p d h;
        heard = λ d. heard_stays law w whole calm p d h;
        readings =
            λ d. ext_get_or start _ _ (readings_many w whole 7 p d h ∙ sym (readings_many w whole 6 p d h))
            (λ i small. reading_last p d i low (omega (arith, readings_many w whole 7 p d h)));
        word = λ d. word_last law w whole calm p d h;
        generators =
            λ d. ext_get_or None _ _ (generators_many w whole 7 p d h ∙ sym (generators_many w whole 6 p d h))
            (λ i small. sending_last p d i low (omega (arith, generators_many w whole 7 p d h)));
      }

  pub next_calm : IsCalm (course w) 7
  unfolding any_run.run
  next_calm =
      calm_round (run 6 w) (whole_run w 6 whole) (started law w whole calm 6) (free_now 6 (omega arith))
      (λ p h. same_nodes p (omega (arith, length_run w 6)))

-- ---- all later rounds are calm

-- rounds a + 1 to a + 6 are calm
abbrev pub SixFrom : World → ℕ → Type 0
SixFrom w a = (j : ℕ) → a < j → j ≤ a + 6 → IsCalm (course w) j

pub from_there : (w : World) (a j : ℕ) → IsCalm (course w) (j + a) → IsCalm (course (run a w)) j
from_there w a j calm = ap (λ (v : World). is_calm v.ring.nodes) (run_more w a j) ∙ calm

six_more : StillRingsAreSettled → (w : World) → IsWhole w → HasCircuits (layout_of w) → (a : ℕ) → SixFrom w a → SixFrom w (suc a)
six_more law w whole form a six j low high = elim (cases_lt j (a + 7)) [
  | inl before ↦ six j (omega arith) (omega arith)
  | inr last ↦ (
      let e : 7 + a ≡ j = omega arith in
      let next =
      next_calm law (run a w) (whole_run w a whole) (subst HasCircuits (sym (layout_run w a)) form)
      (λ i some few. from_there w a i (six (i + a) (omega arith) (omega arith))) in
      subst (IsCalm (course w)) e (sym (ap (λ (v : World). is_calm v.ring.nodes) (run_more w a 7)) ∙ next))
]

six_later : StillRingsAreSettled → (w : World) → IsWhole w → HasCircuits (layout_of w) → (a k : ℕ) → SixFrom w a → SixFrom w (k + a)
six_later law w whole form a zero six = subst (SixFrom w) (let e : a ≡ zero + a = omega arith in e) six
six_later law w whole form a (suc k) six =
    subst (SixFrom w) (let e : suc (k + a) ≡ suc k + a = omega arith in e)
    (six_more law w whole form (k + a) (six_later law w whole form a k six))

pub calm_later : StillRingsAreSettled → (w : World) → IsWhole w → HasCircuits (layout_of w) → (a : ℕ) → SixFrom w a → (j : ℕ) → a < j
    → IsCalm (course w) j
calm_later law w whole form a six j late =
    six_later law w whole form a (j - (a + 1)) six j (omega arith) (omega arith)
