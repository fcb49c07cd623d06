-- From any path ring that is paired with its fibres: all rounds are calm from some round on, and so a quiet window
-- comes.
use Rattle.std.proofs.Common.{◌≡◌, ◌≢◌, ℕ, zero, suc, ◌+◌, ◌-◌, ◌*◌, ◌%◌, ◌<◌, ◌≤◌, Bool, true, List, [], ◌∷◌, length, get_or, Option, Some}
use Rattle.std.proofs.Common.{None, refl, ap, sym, ◌∙◌, subst, arith, inl, inr, ◌⊎◌}
use Rattle.std.specs.Prelude.{slice_get}
use Rattle.std.proofs.lemmas.Bool.{cases_eq}
use Rattle.std.proofs.lemmas.List.{ext_get_or}
use Rattle.std.proofs.lemmas.Option.{get_or_from_slice_get, slice_get_within}
use Rattle.sdh_ringmap.specs.Rates.{n_of}
use Rattle.sdh_ringmap.specs.declared.Side.{Side}
use Rattle.sdh_ringmap.specs.Places.{neighbour, opposite}
use Rattle.sdh_ringmap.specs.Steps.{going}
use Rattle.sdh_ringmap.proofs.Going.{IsReached, going-none, going-first, reached}
use Rattle.sdh_ringmap.proofs.Sides.{neighbour_below, opposite_twice}
use Rattle.sdh_circuits.specs.declared.End.{End}
use Rattle.sdh_circuits.specs.declared.End.TheVariants.{A, B}
use Rattle.sdh_circuits.specs.Provisioned.{Provisioned, customer_at, end_of}
use Rattle.sdh_circuits.specs.Provisioning.{IsInRing}
use Rattle.sdh_circuits.specs.Ends.{port_id}
use Rattle.sdh_pointer.specs.declared.reading.Reading.{Reading}
use Rattle.sdh_pointer.specs.declared.reading.Action.TheVariants as action
use Rattle.sdh_pointer.specs.Reading.{start}
use Rattle.sdh_pointer.specs.Sending.{word_sent}
use Rattle.sdh_plant.specs.Arrivals.{condition_of}
use Rattle.sdh_ringmap.specs.Fibres.{fibre_to, is_cut}
use Rattle.sdh_ringmap.specs.declared.terms.Condition.TheVariants.{Clear}
use Rattle.sdh_terminal.specs.Passing.{Input, no_input}
use Rattle.sdh_rounds.specs.Runs as any_run
use Rattle.sdh_rounds.proofs.Runs.{known_unsettles, known_settles}
use Rattle.sdh_rounds.proofs.Terms.{terms}
use Rattle.sdh_spans.specs.Brought.{BringsDelivery}
use Rattle.sdh_spans.specs.Spans.{TakesWord, word_behind, IsConstant, GeneratorGoesBy, TakesBehind}
use Rattle.sdh_spans.specs.Laws.{RestsBehind}
use Rattle.sdh_spans.proofs.Steady as spans
use Rattle.sdh_spans.proofs.Steady.{constant_as, constant_later, spans_are_steady}
use Rattle.sdh_sncp.specs.Stations.{path_node}
use Rattle.sdh_sncp.specs.Node.{inlet_on, path_sending_on}
use Rattle.sdh_sncp.specs.Ring.{path_node_at, World, run, course, is_calm, EndsWindow}
use Rattle.sdh_sncp.specs.Fixed.{AreAlone}
use Rattle.sdh_sncp.specs.Laws.{IsWholePathRing, HasPathCircuits, cut_in, PathRoundsGetCalm, PathStepsAnswer, StepsDeliver, PathDeliversWhatIsDue}
use Rattle.sdh_sncp.proofs.Rounds.{neighbour_inside, whole_run, left_run}
use Rattle.sdh_sncp.proofs.Calm.{AreSame, calm_where_same}
use Rattle.sdh_sncp.proofs.Spans.{sent_at, came_at, generator_step, interpreter_step}
use Rattle.sdh_sncp.proofs.Uses.{use_is, use_none, use_passed, use_ended, sends_passed, sends_ended, sends_none, port_sends}
use Rattle.sdh_terminal.specs.Tributaries.{added_by}
use Rattle.sdh_sncp.specs.Due.{sends_in}
use Rattle.sdh_sncp.proofs.Owed.{offset_small, quiet_delivers}

-- ---- one AU-4 in many rounds

-- what went into AU-4 number au that left position p on side d in round k of a run (`went`), and what came in AU-4
-- number au that arrived there (`came`)
abbrev pub went : World → ℕ → Side → ℕ → ℕ → Input
went w p d au k = sent_at (run k w) p d au

abbrev pub came : World → ℕ → Side → ℕ → ℕ → Input
came w p d au k = came_at (run k w) p d au

-- the states of the generator and of the interpreter of AU-4 number i + 1
abbrev sending_in : World → ℕ → Side → ℕ → ℕ → Option ℕ
sending_in w p d i k = get_or (path_sending_on d (path_node_at (run k w).ring.nodes p)).generators i None

abbrev reading_in : World → ℕ → Side → ℕ → ℕ → Reading
reading_in w p d i k = get_or (inlet_on d (path_node_at (run k w).ring.nodes p)).readings i start

module _ (w : World) (whole : IsWholePathRing w) where
  abbrev size : ℕ
  size = length w.ring.ids

  abbrev n : ℕ
  n = n_of w.ring.settings.rate

  nodes_there : (j : ℕ) → length (run j w).ring.nodes ≡ length w.ring.nodes
  nodes_there j = (left_run j w).nodes

  rate_there : (j : ℕ) → n_of (run j w).ring.settings.rate ≡ n
  rate_there j = ap (λ s. n_of s.rate) (left_run j w).settings

  cut_there : (j p : ℕ) (d : Side) → cut_in (run j w) p d ≡ cut_in w p d
  cut_there j p d =
      ap (λ ids. is_cut (condition_of (run j w).fibres (fibre_to (length ids) p d))) (left_run j w).ids
      ∙ ap (λ cs. is_cut (get_or cs (fibre_to size p d) Clear)) (left_run j w).conditions

  -- a generator goes on by what goes into its AU-4
  generator_goes : (p : ℕ) (d : Side) (i : ℕ) → p < length w.ring.nodes → i < n → GeneratorGoesBy (went w p d (i + 1)) (sending_in w p d i)
  unfolding any_run.run
  generator_goes p d i inside few j =
      generator_step (run j w) (whole_run w j whole) p d (omega (arith, nodes_there j)) i (omega (arith, rate_there j))

  -- an interpreter goes on by the word that was sent after the span one round before
  interpreter_goes : (p : ℕ) (d : Side) (i : ℕ) → p < length w.ring.nodes → i < n
      → TakesBehind (cut_in w p d) (went w (neighbour size p d) (opposite d) (i + 1)) (sending_in w (neighbour size p d) (opposite d) i)
      (reading_in w p d i) (came w p d (i + 1))
  unfolding any_run.run
  interpreter_goes p d i inside few j =
      let u = run j w in
      let e = opposite d in
      let Takes =
      λ (b : Bool) (q : ℕ). TakesWord (reading_in w p d i (suc j)) (reading_in w p d i (suc (suc j))) (came w p d (i + 1) (suc j))
      (word_behind b (word_sent (sending_in w q e i j) (went w q e (i + 1) j).action (went w q e (i + 1) j).value)) in
      let took = interpreter_step u (whole_run w j whole) p d (omega (arith, nodes_there j)) i (omega (arith, rate_there j)) in
      subst (λ b. Takes b (neighbour size p d)) (cut_there (suc j) p d)
      (subst (λ ids. Takes (cut_in (run (suc j) w) p d) (neighbour (length ids) p d)) (left_run j w).ids took)

  -- what comes to rest after a span
  pub span_rests : (p : ℕ) (d : Side) (i k : ℕ) → p < length w.ring.nodes → i < n
      → IsConstant (went w (neighbour size p d) (opposite d) (i + 1)) k → RestsBehind (reading_in w p d i) (came w p d (i + 1)) k
  span_rests p d i k inside few c =
      let q = neighbour size p d in
      let e = opposite d in
      spans_are_steady (cut_in w p d) (went w q e (i + 1)) (came w p d (i + 1)) (sending_in w q e i) (reading_in w p d i) k
      (generator_goes q e i (neighbour_inside w whole p d) few) (interpreter_goes p d i inside few) c

-- ---- slots

-- a circuit that has slot m
pub record HasSlot (cs : List Provisioned) (m : ℕ) : Type 0 where
  pub index : ℕ
  pub circuit : Provisioned
  pub get : slice_get cs index ≡ Some circuit
  pub slot : circuit.slot.0 ≡ m

slot_cases : (cs : List Provisioned) (m : ℕ) → HasSlot cs m ⊎ ((j : ℕ) (d : Provisioned) → slice_get cs j ≡ Some d → d.slot.0 ≢ m)
slot_cases [] m = inr (λ j d is. cc)
slot_cases (x ∷ cs) m = elim (cases_eq x.slot.0 m) [
  | inl here ↦ inl (record { index = 0; circuit = x; get = refl; slot = here })
  | inr other ↦ elim (slot_cases cs m) [
    | inl later ↦ inl (record { index = suc later.index; circuit = later.circuit; get = later.get; slot = later.slot })
    | inr none ↦ inr (missing other none)
  ]
]
  where
    missing : x.slot.0 ≢ m → ((j : ℕ) (d : Provisioned) → slice_get cs j ≡ Some d → d.slot.0 ≢ m) → (j : ℕ) (d : Provisioned)
        → slice_get (x ∷ cs) j ≡ Some d → d.slot.0 ≢ m
    missing other none zero d is = let same : x ≡ d = cc in λ e. other (ap (λ (c : Provisioned). c.slot.0) same ∙ e)
    missing other none (suc j) d is = none j d is

module _ (w : World) (whole : IsWholePathRing w) (form : HasPathCircuits w.ring) where
  open terms w use {cs}

  some : 0 < size w whole
  some = let e = whole.placed.ids.enough in omega arith

  inside_of : (p : ℕ) → p < size w whole → p < length w.ring.nodes
  inside_of p h = let e = whole.placed.size in omega arith

  same_circuits : (j index : ℕ) (c : Provisioned) → slice_get cs index ≡ Some c → slice_get (run j w).ring.circuits.circuits index ≡ Some c
  same_circuits j index c get = ap (λ p. slice_get p.circuits index) (left_run j w).circuits ∙ get

  same_alone : (j : ℕ) → AreAlone (run j w).ring.circuits.circuits
  same_alone j = subst (λ p. AreAlone p.circuits) (sym (left_run j w).circuits) form.alone

  -- an AU-4 without a circuit is AIS
  none_constant : (q m : ℕ) (d : Side) → q < size w whole → 1 ≤ m → m ≤ n w whole
      → ((j : ℕ) (x : Provisioned) → slice_get cs j ≡ Some x → x.slot.0 ≢ m) → IsConstant (went w q d m) 0
  none_constant q m d h low high none = record {
    does = action.Ais;
    value = 0;
    sound = λ e. absurd (cc);
    does_is = λ j late. ap (λ (i : Input). i.action) (sends j);
    value_is = λ j late. ap (λ (i : Input). i.value) (sends j);
  }
    where
      sends : (j : ℕ) → sent_at (run j w) q d m ≡ no_input
      sends j =
          sends_none (run j w) (whole_run w j whole) q m (let e = nodes_there w whole j in let i = inside_of q h in omega arith) low
          (let e = rate_there w whole j in omega arith) d
          (use_none (run j w).ring.circuits.circuits q m (subst
          (λ p. (i : ℕ) (x : Provisioned) → slice_get p.circuits i ≡ Some x → x.slot.0 ≢ m) (sym (left_run j w).circuits) none))

  module _ (index : ℕ) (c : Provisioned) (get : slice_get cs index ≡ Some c) (ring : IsInRing (size w whole) c) (low : 1 ≤ c.slot.0)
      (high : c.slot.0 ≤ n w whole) (small : (e : End) → (customer_at c e).offset ≤ 782) where
    abbrev m : ℕ
    m = c.slot.0

    at_m : m - 1 + 1 ≡ m
    at_m = omega arith

    -- what the port at an end sends never changes
    end_constant : (e : End) (d : Side) → (end_of c e).0 < size w whole → IsConstant (went w ((end_of c e).0) d m) 0
    end_constant e d h = record {
      does = action.Normal;
      value = (customer_at c e).offset;
      sound = λ x. small e;
      does_is = λ j late. ap (λ (i : Input). i.action) (sends j) ∙ (brings j).0;
      value_is = λ j late. ap (λ (i : Input). i.value) (sends j) ∙ (brings j).1;
    }
      where
        there : (j : ℕ) → (end_of c e).0 < length (run j w).ring.nodes
        there j = let x = nodes_there w whole j in let i = inside_of ((end_of c e).0) h in omega arith

        sends : (j : ℕ) → sent_at (run j w) ((end_of c e).0) d m
            ≡ added_by (path_node_at (run j w).ring.nodes ((end_of c e).0)).ports (port_id index e)
        sends j =
            sends_ended (run j w) (whole_run w j whole) ((end_of c e).0) m (there j) low (let x = rate_there w whole j in omega arith) d
            (port_id index e)
            (use_is (run j w).ring.circuits.circuits (same_alone j) ((end_of c e).0) index c (same_circuits j index c get)
            ∙ use_ended index c e ring.two_ends)

        brings : (j : ℕ) → BringsDelivery (added_by (path_node_at (run j w).ring.nodes ((end_of c e).0)).ports (port_id index e))
            (sends_in (customer_at c e) (run j w).ring.rounds)
        brings j = port_sends (run j w) (whole_run w j whole) index c e (same_circuits j index c get) (there j)

    -- s spans from the node where the circuit starts
    way_constant : (s q : ℕ) (d : Side) → q < size w whole → going (size w whole) d q s ≡ c.from.0
        → IsConstant (went w q (opposite d) m) (9 * s)
    way_constant zero q d h leads =
        let here : q ≡ c.from.0 = sym (going-none (size w whole) some d q h) ∙ leads in
        subst (λ y. IsConstant (went w y (opposite d) m) 0) (sym here) (end_constant A (opposite d) ring.from_inside)
    way_constant (suc s) q d h leads = elim (cases_eq q c.from.0) [
      | inl start ↦ constant_later (went w q (opposite d) m) 0 (9 * suc s) (omega arith)
          (subst (λ y. IsConstant (went w y (opposite d) m) 0) (sym start) (end_constant A (opposite d) ring.from_inside))
      | inr a ↦ elim (cases_eq q c.to.0) [
        | inl stop ↦ constant_later (went w q (opposite d) m) 0 (9 * suc s) (omega arith)
            (subst (λ y. IsConstant (went w y (opposite d) m) 0) (sym stop) (end_constant B (opposite d) ring.to_inside))
        | inr b ↦ passed_constant s q d h a b (way_constant s (neighbour (size w whole) q d) d (neighbour_below (size w whole) q d some)
            (going-first (size w whole) some d q s ∙ leads))
      ]
    ]
      where
        passed_constant : (s q : ℕ) (d : Side) → q < size w whole → q ≢ c.from.0 → q ≢ c.to.0
            → IsConstant (went w (neighbour (size w whole) q d) (opposite d) m) (9 * s) → IsConstant (went w q (opposite d) m) (9 * suc s)
        passed_constant s q d h a b earlier =
            constant_later (went w q (opposite d) m) (9 * s + 9) (9 * suc s) (omega arith)
            (constant_as (came w q d m) (went w q (opposite d) m) (9 * s + 9)
            (λ j. sends_passed (run j w) (whole_run w j whole) q m
            (let x = nodes_there w whole j in let i = inside_of q h in omega arith) low (let x = rate_there w whole j in omega arith) d
            (use_is (run j w).ring.circuits.circuits (same_alone j) q index c (same_circuits j index c get) ∙ use_passed q index c a b))
            (subst (λ k. IsConstant (came w q d k) (9 * s + 9)) at_m
            ((span_rests w whole q d (m - 1) (9 * s) (inside_of q h) (omega arith)
            (subst (λ k. IsConstant (went w (neighbour (size w whole) q d) (opposite d) k) (9 * s)) (sym at_m) earlier)).comes)))

    circuit_constant : (q : ℕ) (d : Side) → q < size w whole → IsConstant (went w q (opposite d) m) (9 * size w whole)
    circuit_constant q d h =
        let r : IsReached (size w whole) d q c.from.0 = reached (size w whole) some d q c.from.0 h ring.from_inside in
        constant_later (went w q (opposite d) m) (9 * r.steps) (9 * size w whole) (let f = r.few in omega arith)
        (way_constant r.steps q d h r.there)

  -- what goes into each AU-4
  sent_constant : (q : ℕ) (d : Side) (m : ℕ) → q < size w whole → 1 ≤ m → m ≤ n w whole → IsConstant (went w q d m) (9 * size w whole)
  sent_constant q d m h low high = elim (slot_cases cs m) [
    | inr none ↦ constant_later (went w q d m) 0 (9 * size w whole) (omega arith) (none_constant q m d h low high none)
    | inl s ↦ by_slot s
  ]
    where
      by_slot : HasSlot cs m → IsConstant (went w q d m) (9 * size w whole)
      by_slot s =
          let c = s.circuit in
          let within = slice_get_within cs s.index c s.get in
          let is = get_or_from_slice_get cs s.index c c s.get in
          let ring : IsInRing (size w whole) c = subst (IsInRing (size w whole)) is (form.are.in_ring s.index c within) in
          subst (λ k. IsConstant (went w q d k) (9 * size w whole)) s.slot
          (subst (λ e. IsConstant (went w q e c.slot.0) (9 * size w whole)) (opposite_twice d)
          (circuit_constant s.index c s.get ring (let e = s.slot in omega arith) (let e = s.slot in omega arith)
          (λ e. offset_small cs form.are.offsets s.index c s.get e) q (opposite d) h))

  -- ---- no pointer moves

  abbrev limit : ℕ
  limit = 9 * size w whole + 9

  generators_rest : (j q : ℕ) (d : Side) → limit ≤ j → q < size w whole
      → (path_sending_on d (path_node_at (run (suc j) w).ring.nodes q)).generators ≡ (path_sending_on d (path_node_at (run j w).ring.nodes q)).generators
  generators_rest j q d late h =
      let many =
      λ (k : ℕ). ((whole_run w k whole).placed.places q
      (let e = nodes_there w whole k in let i = inside_of q h in omega arith)).senders d in
      let len = λ (k : ℕ). (many k).generators ∙ rate_there w whole k in
      ext_get_or None (path_sending_on d (path_node_at (run (suc j) w).ring.nodes q)).generators
      (path_sending_on d (path_node_at (run j w).ring.nodes q)).generators (len (suc j) ∙ sym (len j)) (λ i lt. (
      let few : i < n w whole = (let e = len (suc j) in omega arith) in
      let c = sent_constant q d (i + 1) h (omega arith) (omega arith) in
      let goes = generator_goes w whole q d i (inside_of q h) few in
      let rests =
      λ (k : ℕ) (soon : 9 * size w whole + 1 ≤ k). spans.generators_rest (went w q d (i + 1)) (sending_in w q d i)
      (9 * size w whole) goes c k soon in
      rests (suc j) (omega arith) ∙ sym (rests j (omega arith))))

  readings_rest : (j p : ℕ) (d : Side) → limit ≤ j → p < size w whole
      → (inlet_on d (path_node_at (run (suc j) w).ring.nodes p)).readings ≡ (inlet_on d (path_node_at (run j w).ring.nodes p)).readings
  readings_rest j p d late h =
      let many =
      λ (k : ℕ). ((whole_run w k whole).placed.places p
      (let e = nodes_there w whole k in let i = inside_of p h in omega arith)).inlets d in
      let len = λ (k : ℕ). (many k).readings ∙ rate_there w whole k in
      ext_get_or start (inlet_on d (path_node_at (run (suc j) w).ring.nodes p)).readings (inlet_on d (path_node_at (run j w).ring.nodes p)).readings
      (len (suc j) ∙ sym (len j)) (λ i lt. (
      let few : i < n w whole = (let e = len (suc j) in omega arith) in
      (span_rests w whole p d i (9 * size w whole) (inside_of p h) few
      (sent_constant (neighbour (size w whole) p d) (opposite d) (i + 1) (neighbour_below (size w whole) p d some) (omega arith)
      (omega arith))).stays j (omega arith)))

  same_next : (j : ℕ) → limit ≤ j → (p : ℕ) → p < length (run j w).ring.nodes
      → AreSame (path_node_at (run (suc j) w).ring.nodes p) (path_node_at (run j w).ring.nodes p)
  same_next j late p h =
      let low : p < size w whole = (let e = nodes_there w whole j in let z = whole.placed.size in omega arith) in
      record { readings = λ d. readings_rest j p d late low; generators = λ d. generators_rest j p d late low }

  pub gets_calm : (j : ℕ) → limit < j → is_calm (run j w).ring.nodes ≡ true
  unfolding any_run.run
  gets_calm j late =
      subst (λ k. is_calm (run k w).ring.nodes ≡ true) (let e : suc (j - 1) ≡ j = omega arith in e) (calm_next (j - 1) (omega arith))
    where
      calm_next : (i : ℕ) → limit ≤ i → is_calm (run (suc i) w).ring.nodes ≡ true
      calm_next i enough =
          calm_where_same (run i w) (whole_run w i whole) (let r = (left_run i w).rounds in omega arith) (same_next i enough)

pub rounds_get_calm : PathRoundsGetCalm
rounds_get_calm w whole form j late = gets_calm w whole form j (omega arith)

-- ---- a window

-- the last multiple of 128 of 128 numbers
at_place : (s : ℕ) → (s - s % 128) % 128 ≡ 0
at_place s = omega arith

-- a window ends with round `ends` of a run, which is at most round `most`
pub record WindowBy (w : World) (most : ℕ) : Type 0 where
  pub ends : ℕ
  pub soon : ends ≤ most
  pub window : EndsWindow (course w) ends

calm_ends : (w : World) (first : ℕ) → ((j : ℕ) → first ≤ j → is_calm (run j w).ring.nodes ≡ true)
    → WindowBy w (first + 3 * length w.ring.ids + 128)
calm_ends w first calm =
    let a = first + 3 * length w.ring.ids in
    let s = w.ring.rounds + a + 126 in
    let low : s % 128 < 128 = omega arith in
    let k = a + 127 - s % 128 in
    let left = left_run k w in
    let size : length (run k w).ring.ids ≡ length w.ring.ids = ap length left.ids in
    let number : (run k w).ring.rounds ≡ w.ring.rounds + k = left.rounds in
    let place : ((run k w).ring.rounds - 1) % 128 ≡ 0 =
    (let e : (run k w).ring.rounds - 1 ≡ s - s % 128 = omega arith in let z = at_place s in omega arith) in
    record {
      ends = k;
      soon = omega arith;
      window = record { long = omega arith; calm = λ j early late. calm j (omega arith); place = place };
    }

pub steps_answer : PathStepsAnswer
steps_answer w left limit form whole enough unsettled =
    let never = (known_unsettles path_node w limit left (inl whole.paired.honest.honest) unsettled).0 in
    let by = calm_ends w (9 * length w.ring.ids + 20) (λ j late. rounds_get_calm w whole form j late) in
    never by.ends (let s = by.soon in omega arith) by.window

-- ---- a settle step

pub steps_deliver : StepsDeliver
steps_deliver w left limit form settles whole =
    let k = known_settles path_node w limit left (inl whole.paired.honest.honest) settles in
    subst PathDeliversWhatIsDue (sym k.2) (quiet_delivers w k.0 whole form k.1.window)
