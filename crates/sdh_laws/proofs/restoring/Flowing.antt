-- What bytes and AIS do after a span, whatever its generator and its interpreter kept.
use Rattle.std.proofs.Common.{◌≡◌, ◌≢◌, ℕ, zero, suc, ◌+◌, ◌-◌, ◌*◌, ◌<◌, ◌≤◌, inl, inr, ◌⊎◌, Bool, true, false, List, length, get_or}
use Rattle.std.proofs.Common.{Option, Some, None, refl, ap, ap₂, sym, ◌∙◌, subst, arith}
use Rattle.std.specs.Prelude.{not}
use Rattle.std.proofs.lemmas.Bool.{cases_lt}
use Rattle.sdh_ringmap.specs.Rates.{n_of}
use Rattle.sdh_frame.specs.Aus.{Au}
use Rattle.sdh_ringmap.specs.declared.Side.{Side}
use Rattle.sdh_ringmap.specs.Places.{neighbour, opposite}
use Rattle.sdh_pointer.specs.declared.reading.Reading.{Reading}
use Rattle.sdh_pointer.specs.declared.reading.Mode.{Mode}
use Rattle.sdh_pointer.specs.declared.reading.Mode.TheVariants as mode
use Rattle.sdh_pointer.specs.declared.reading.Action.{Action}
use Rattle.sdh_pointer.specs.declared.reading.Action.TheVariants as action
use Rattle.sdh_pointer.specs.declared.word.Form.{Form}
use Rattle.sdh_pointer.specs.declared.word.Form.TheVariants as form
use Rattle.sdh_pointer.specs.Words.{word_of, value_in}
use Rattle.sdh_pointer.specs.Reading.{action_on, after_word, is_norm}
use Rattle.sdh_pointer.specs.Sending.{word_sent, form_sent}
use Rattle.sdh_pointer.specs.Repeated.{after_rounds}
use Rattle.sdh_pointer.specs.Laws.{is_ais_action, lasting_state}
use Rattle.sdh_pointer.proofs.Bounds.{answer_tells_mode}
use Rattle.sdh_pointer.proofs.Forms.{normal_word, normal_value, enabled_word, enabled_value}
use Rattle.sdh_pointer.proofs.Sent.{normal_sent, new_sent, next_by_action}
use Rattle.sdh_pointer.proofs.Settling.{ais_settles}
use Rattle.sdh_terminal.specs.Passing.{Input, au_for, au_sent}
use Rattle.sdh_terminal.specs.Lines.{received}
use Rattle.sdh_node.specs.Node.{sending_on}
use Rattle.sdh_ringmap.specs.Fibres.{is_cut}
use Rattle.sdh_node.specs.Rings.Held.{node_at}
use Rattle.sdh_node.specs.Rings.Rounds.{World, round}
use Rattle.sdh_node.specs.Rings.Runs.{run}
use Rattle.sdh_node.specs.Rings.Sides.{condition_to}
use Rattle.sdh_laws.specs.Hearing.Signalling.{lines_at}
use Rattle.sdh_laws.specs.Hearing.Laws.{IsWhole}
use Rattle.sdh_laws.proofs.hearing.Changes.{whole_run}
use Rattle.sdh_laws.proofs.hearing.Rounds.{neighbour_inside}
use Rattle.sdh_laws.proofs.hearing.Staying.{left_run}
use Rattle.sdh_laws.specs.Carrying.Windows.{sent_at}
use Rattle.sdh_spans.specs.Spans.{word_behind}
use Rattle.sdh_laws.proofs.carrying.Spans.{au_step}
use Rattle.sdh_laws.specs.Converging.Steady.{went, brought_to}
use Rattle.sdh_laws.proofs.converging.Runs.{length_run, rate_run, condition_run}
use Rattle.sdh_laws.proofs.converging.Spans.{sending_in, reading_in, word_in, Takes, generator_goes, interpreter_goes}
use Rattle.sdh_laws.specs.Restoring.Flowing.{Flows, FlowsBehind, IsAisFrom}
use Rattle.sdh_laws.proofs.restoring.Landing.{IsAt, ByNew, keeps, answers_there, answered, lands, outside, enabled_taken, enabled_left}
use Rattle.sdh_laws.proofs.resting.Pointers.{ais_from}
use Rattle.sdh_rounds.specs.Runs as any_run
use Rattle.sdh_spans.proofs.Sends.{ais_word}

-- ---- a generator

pub state_of : (a : Action) (v : ℕ) → is_ais_action a ≡ false → lasting_state a v ≡ Some v
state_of action.Ais v e = absurd (cc)
state_of action.Normal v e = refl
state_of action.New v e = refl
state_of action.Up v e = refl
state_of action.Down v e = refl

passed : (a : Action) (f : Form) (word : ℕ) (x : Au) → is_ais_action a ≡ false → (au_for a f word x).payload ≡ x.payload
passed action.Ais f word x e = absurd (cc)
passed action.Normal f word x e = refl
passed action.New f word x e = refl
passed action.Up f word x e = refl
passed action.Down f word x e = refl

payload_sent : (s : Option ℕ) (i : Input) → is_ais_action i.action ≡ false → (au_sent s i).payload ≡ i.au.payload
unfolding au_sent
payload_sent s i e = passed i.action (form_sent s i.action i.value) (word_sent s i.action i.value) i.au e

ones_behind : (b : Bool) → word_behind b 65535 ≡ 65535
ones_behind true = refl
ones_behind false = refl

module _ (w : World) (whole : IsWhole w) (p : ℕ) (d : Side) (i : ℕ) (inside : p < length w.ring.nodes)
    (few : i < n_of w.ring.settings.rate) where
  abbrev q : ℕ
  q = neighbour (length w.ring.ids) p d

  abbrev e : Side
  e = opposite d

  abbrev cut : Bool
  cut = is_cut (condition_to w p d)

  abbrev sent : ℕ → Input
  sent = went w q e (i + 1)

  abbrev comes : ℕ → Input
  comes = brought_to w p d (i + 1)

  abbrev reading : ℕ → Reading
  reading j = reading_in w p d i j

  q_inside : q < length w.ring.nodes
  q_inside = neighbour_inside w whole p d

  pub taking : (m : ℕ) → 1 ≤ m → Takes w p d i m (word_behind cut (word_in w q e i (m - 1)))
  taking m some =
      let j = m - 1 in
      let now : suc j ≡ m = omega arith in
      subst (λ l. Takes w p d i l (word_behind cut (word_in w q e i j))) now
      (interpreter_goes w whole p d i j inside few)

  -- one word from round t on
  module _ (word t : ℕ) (takes : (m : ℕ) → t ≤ m → Takes w p d i m word) where
    reads_on : (n m : ℕ) → t ≤ m → after_rounds n word (reading m) ≡ reading (m + n)
    reads_on zero m h = ap reading {x = m} {y = m + zero} (omega arith)
    reads_on (suc n) m h =
        ap (after_rounds n word) (sym (takes m h).reading) ∙ reads_on n (suc m) (omega arith)
        ∙ ap reading {x = suc m + n} {y = m + suc n} (omega arith)

  -- ---- bytes

  module _ (t v : ℕ) (bytes : ℕ → List ℕ) (small : v ≤ 782) (kept : cut ≡ false) (f : Flows sent t v bytes) where
    abbrev word : ℕ
    word = word_of form.Normal v

    sending_rests : (j : ℕ) → t + 1 ≤ j → sending_in w q e i j ≡ Some v
    sending_rests j h =
        let m = j - 1 in
        let now : suc m ≡ j = omega arith in
        ap (sending_in w q e i) (sym now) ∙ generator_goes w whole q e i m q_inside few
        ∙ next_by_action (sending_in w q e i m) (sent m).action (sent m).value
        ∙ state_of (sent m).action (sent m).value (f.taken m (omega arith)) ∙ ap Some (f.value m (omega arith))

    word_rests : (j : ℕ) → t + 1 ≤ j → word_in w q e i j ≡ word
    word_rests j h =
        ap (λ s. word_sent s (sent j).action (sent j).value) (sending_rests j h)
        ∙ ap₂ (λ a x. word_sent (Some v) a x) (f.plain j h) (f.value j (omega arith)) ∙ (normal_sent v v refl).word

    takes : (m : ℕ) → t + 2 ≤ m → Takes w p d i m word
    takes m h =
        subst (Takes w p d i m) (ap (λ b. word_behind b (word_in w q e i (m - 1))) kept ∙ word_rests (m - 1) (omega arith))
        (taking m (omega arith))

    abbrev pub At_of : Reading → Type 0
    At_of r = IsAt word v (normal_word v small) (normal_value v small) r

    abbrev pub At : ℕ → Type 0
    At j = At_of (reading j)

    at_from : (u : ℕ) → t + 2 ≤ u → At u → (k : ℕ) → At (u + k)
    at_from u late here zero = let same : u ≡ u + zero = omega arith in subst At same here
    at_from u late here (suc k) =
        let next : suc (u + k) ≡ u + suc k = omega arith in
        subst At next (subst At_of (sym (takes (u + k) (omega arith)).reading)
        (keeps word v (normal_word v small) (normal_value v small) (reading (u + k)) (at_from u late here k)))

    at_later : (u : ℕ) → t + 2 ≤ u → At u → (j : ℕ) → u ≤ j → At j
    at_later u late here j h = let same : u + (j - u) ≡ j = omega arith in subst At same (at_from u late here (j - u))

    -- the AU-4 that comes is what its generator sent in the round before
    abbrev Steps : ℕ → World → Type 0
    Steps size u = is_cut (condition_to (round u) p d) ≡ false
        → (received (lines_at (round u) p) d (i + 1)).au ≡ au_sent
        (get_or (sending_on e (node_at u.ring.nodes (neighbour size p d))).generators i None) (sent_at u (neighbour size p d) e (i + 1))

    step : (m : ℕ) → Steps (length (run m w).ring.ids) (run m w)
    step m = au_step (run m w) (whole_run w m whole) p d (omega (arith, length_run w m)) i (omega (arith, rate_run w m))

    one_payload : (m : ℕ) → t + 1 ≤ m → (comes (suc m)).au.payload ≡ bytes m
    unfolding any_run.run
    one_payload m h =
        ap (λ (a : Au). a.payload) (subst (λ ids. Steps (length ids) (run m w)) (left_run m w).ids (step m)
        (ap is_cut (condition_run w (suc m) p d) ∙ kept))
        ∙ payload_sent (sending_in w q e i m) (sent m) (f.taken m (omega arith)) ∙ f.payload m (omega arith)

    payload_comes : (j : ℕ) → t + 2 ≤ j → (comes j).au.payload ≡ bytes (j - 1)
    payload_comes j h =
        let m = j - 1 in
        let now : suc m ≡ j = omega arith in
        ap (λ l. (comes l).au.payload) (sym now) ∙ one_payload m (omega arith)

    -- the bytes flow from round u on, if the interpreter is in Norm at the value v after round u
    pub from_round : (u : ℕ) → t + 1 ≤ u → is_ais_action (comes u).action ≡ false → (comes u).value ≡ v → At (suc u)
        → Flows comes u v (λ j. bytes (j - 1))
    from_round u late first worth here = record {
      taken = λ j h. elim (cases_lt u j) [
        | inl more ↦ ap is_ais_action ((takes j (omega arith)).action
            ∙ answers_there word v (normal_word v small) (normal_value v small) (reading j)
            (at_later (suc u) (omega arith) here j (omega arith)))
        | inr less ↦ (let same : j ≡ u = omega arith in ap (λ l. is_ais_action (comes l).action) same ∙ first)
      ];
      value = λ j h. elim (cases_lt u j) [
        | inl more ↦ (takes j (omega arith)).value ∙ (at_later (suc u) (omega arith) here (suc j) (omega arith)).1
        | inr less ↦ (let same : j ≡ u = omega arith in ap (λ l. (comes l).value) same ∙ worth)
      ];
      plain =
          λ j h. (takes j (omega arith)).action ∙ answers_there word v (normal_word v small) (normal_value v small) (reading j)
          (at_later (suc u) (omega arith) here j (omega arith));
      payload = λ j h. payload_comes j (omega arith);
    }

    -- the bytes flow from round u on, if normal words led the interpreter to Norm at the value v by then
    by_normal : (u : ℕ) → t + 2 ≤ u → At (suc u) → Flows comes u v (λ j. bytes (j - 1))
    by_normal u late here =
        from_round u (omega arith)
        (ap is_ais_action (takes u late).action ∙ answered word v (normal_word v small) (normal_value v small) (reading u)
        (subst At_of (takes u late).reading here))
        ((takes u late).value ∙ here.1) here

    -- the bytes flow from a round with the action New on, at most b rounds after round m
    new_at : (b m : ℕ) → t + 2 ≤ m → ByNew word v (normal_word v small) (normal_value v small) b (reading m)
        → (u : ℕ) × (u < m + b) × Flows comes u v (λ j. bytes (j - 1)) × ((comes u).action ≡ action.New)
    new_at b m late n =
        let u = m + n.before in
        let few = n.few in
        let there : after_rounds n.before word (reading m) ≡ reading u = reads_on word (t + 2) takes n.before m late in
        let now = takes u (omega arith) in (
          u,
          omega arith,
          by_normal u (omega arith) (subst At_of (sym now.reading) (subst (λ r. At_of (after_word r word)) there n.at)),
          now.action ∙ ap (λ r. action_on r word) (sym there) ∙ n.new,
        )

    -- the bytes flow after the span four rounds later, or at most seven rounds later, if the first action there is New
    pub flows_on : (Flows comes (t + 4) v (λ j. bytes (j - 1)))
        ⊎ ((u : ℕ) × (u < t + 8) × Flows comes u v (λ j. bytes (j - 1)) × ((comes u).action ≡ action.New))
    flows_on = elim (lands word v (normal_word v small) (normal_value v small) small (reading (t + 2))) [
      | inl at ↦ inl (by_normal (t + 4) (omega arith) (subst At_of
          (reads_on word (t + 2) takes 3 (t + 2) (omega arith) ∙ ap reading {x = t + 2 + 3} {y = suc (t + 4)} (omega arith)) at))
      | inr n ↦ inr (let found = new_at 6 (t + 2) (omega arith) n in (found.0, (let few = found.1 in omega arith), found.2, found.3))
    ]

    -- where the first action before the span is New, the bytes flow after it at most four rounds later, with New again
    module _ (new : (sent t).action ≡ action.New) where
      abbrev enabled : ℕ
      enabled = word_of form.Enabled v

      first_word : word_in w q e i t ≡ enabled
      first_word =
          ap₂ (λ a x. word_sent (sending_in w q e i t) a x) new (f.value t (omega arith)) ∙ (new_sent (sending_in w q e i t) v).word

      first_takes : Takes w p d i (t + 1) enabled
      first_takes =
          let before : t + 1 - 1 ≡ t = omega arith in
          subst (Takes w p d i (t + 1)) (ap (λ b. word_behind b (word_in w q e i (t + 1 - 1))) kept ∙ ap (word_in w q e i) before
          ∙ first_word) (taking (t + 1) (omega arith))

      value_is : value_in enabled ≡ v
      value_is = enabled_value v small

      at_once : (reading (t + 1)).mode ≢ mode.Lop → (u : ℕ) × (u < t + 5) × Flows comes u v (λ j. bytes (j - 1))
          × ((comes u).action ≡ action.New)
      at_once other =
          let take = enabled_taken (reading (t + 1)) enabled (enabled_word v small) (omega (arith, value_is)) other in
          let after = first_takes.reading ∙ take.0 in
          let acts : (comes (t + 1)).action ≡ action.New = first_takes.action ∙ take.1 in (
            t + 1,
            omega arith,
            from_round (t + 1) (omega arith) (ap is_ais_action acts) (first_takes.value ∙ ap (λ (r : Reading). r.value) after ∙ value_is)
                (ap (λ (r : Reading). r.mode) after, ap (λ (r : Reading). r.value) after ∙ value_is),
            acts,
          )

      by_mode : (m : Mode) → (reading (t + 1)).mode ≡ m → (u : ℕ) × (u < t + 5) × Flows comes u v (λ j. bytes (j - 1))
          × ((comes u).action ≡ action.New)
      by_mode mode.Lop is =
          let left = first_takes.reading ∙ enabled_left (reading (t + 1)) enabled (enabled_word v small) (omega (arith, value_is)) is in
          let now : suc (t + 1) ≡ t + 2 = omega arith in
          let out : (reading (t + 2)).mode ≡ mode.Lop = ap (λ j. (reading j).mode) (sym now) ∙ ap (λ (r : Reading). r.mode) left in
          let found =
          new_at 3 (t + 2) (omega arith) (outside word v (normal_word v small) (normal_value v small) small mode.Lop
          (reading (t + 2)) out refl) in
          (found.0, (let few = found.1 in omega arith), found.2, found.3)
      by_mode mode.Norm is = at_once (λ o. (let e = sym is ∙ o in cc))
      by_mode mode.Ais is = at_once (λ o. (let e = sym is ∙ o in cc))

      pub flows_new : (u : ℕ) × (u < t + 5) × Flows comes u v (λ j. bytes (j - 1)) × ((comes u).action ≡ action.New)
      flows_new = by_mode (reading (t + 1)).mode refl

  -- ---- after one span more

  pub flows_behind : (spans v : ℕ) (bytes : ℕ → List ℕ) → v ≤ 782 → cut ≡ false → FlowsBehind sent spans v bytes
      → FlowsBehind comes (spans + 1) v (λ j. bytes (j - 1))
  flows_behind spans v bytes small kept f = by f.soon
    where
      by : (f.first ≤ 4 * spans) ⊎ ((f.first ≤ 4 * spans + 3) × ((sent f.first).action ≡ action.New))
          → FlowsBehind comes (spans + 1) v (λ j. bytes (j - 1))
      by (inl early) = elim (flows_on f.first v bytes small kept f.flows) [
        | inl g ↦ record { first = f.first + 4; flows = g; soon = inl (omega arith) }
        | inr n ↦ (let few = n.1 in record { first = n.0; flows = n.2; soon = inr (omega arith, n.3) })
      ]
      by (inr late) =
          let n = flows_new f.first v bytes small kept f.flows late.1 in
          let few = n.1 in
          let early = late.0 in
          record { first = n.0; flows = n.2; soon = inr (omega arith, n.3) }

  -- ---- AIS

  module _ (t : ℕ) (s : IsAisFrom sent t) where
    silent_takes : (m : ℕ) → t + 1 ≤ m → Takes w p d i m 65535
    silent_takes m h =
        subst (Takes w p d i m)
        (ap (word_behind cut) (ap (λ a. word_sent (sending_in w q e i (m - 1)) a (sent (m - 1)).value) (s (m - 1) (omega arith))
        ∙ ais_word (sending_in w q e i (m - 1)) (sent (m - 1)).value) ∙ ones_behind cut)
        (taking m (omega arith))

    out_of_norm : (j : ℕ) → t + 4 ≤ j → is_norm (reading j).mode ≡ false
    out_of_norm j h =
        ap (λ l. is_norm (reading l).mode) {x = j} {y = t + 1 + (j - (t + 1))} (omega arith)
        ∙ ap (λ (r : Reading). is_norm r.mode) (sym (reads_on 65535 (t + 1) silent_takes (j - (t + 1)) (t + 1) (omega arith))
        ∙ ais_settles (reading (t + 1)) (j - (t + 1)) (omega arith))

    pub silent_on : IsAisFrom comes (t + 3)
    silent_on j h =
        (silent_takes j (omega arith)).action
        ∙ ais_from (action_on (reading j) 65535)
        (answer_tells_mode (reading j) 65535 ∙ ap (λ (r : Reading). not (is_norm r.mode)) (sym (silent_takes j (omega arith)).reading)
        ∙ ap not (out_of_norm (suc j) (omega arith)))
