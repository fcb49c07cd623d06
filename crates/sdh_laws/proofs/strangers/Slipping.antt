-- What a port sends by a clock that may slip, from span to span: interpreters and generators follow it.
use Rattle.std.proofs.Common.{◌≡◌, ◌≢◌, ℕ, ◌+◌, ◌-◌, ◌<◌, ◌≤◌, Bool, true, false, Option, Some, None, refl, ap, ap₂, sym, ◌∙◌, subst, arith}
use Rattle.std.proofs.Common.{inl, inr}
use Rattle.std.specs.Prelude.{◌==◌, ◌&&◌, if◌then◌else◌, nat_le, nat_lt, min}
use Rattle.std.proofs.lemmas.Bool.{cases_lt, cases_eq, cond-true, cond-false, lt-ltb, le-ltb, le-leb, leb-false, ne_eqb, and_right}
use Rattle.sdh_payload.specs.declared.chunk.ChunkForm.{ChunkForm}
use Rattle.sdh_payload.specs.declared.chunk.ChunkForm.TheVariants.{Plain, Short, Long}
use Rattle.sdh_payload.specs.Clock.{Clock, next_form, after_form, ticked}
use Rattle.sdh_pointer.specs.declared.reading.Action.{Action}
use Rattle.sdh_pointer.specs.declared.reading.Action.TheVariants as action
use Rattle.sdh_pointer.specs.declared.reading.Mode.TheVariants as mode
use Rattle.sdh_pointer.specs.declared.reading.Reading.{Reading}
use Rattle.sdh_pointer.specs.declared.word.Form.TheVariants as form
use Rattle.sdh_pointer.specs.Words.{word_of, one_down}
use Rattle.sdh_pointer.specs.Reading.{Interpreter, start, after_word, action_on, after_step, nothing_counted}
use Rattle.sdh_pointer.specs.Sending.{form_sent, word_sent, next_sending}
use Rattle.sdh_pointer.specs.Spreading.{action_over, word_over, sending_over, reading_over}
use Rattle.sdh_pointer.specs.Laws.{IsInStep, GoesOn}
use Rattle.sdh_pointer.proofs.Sent.{ais_sent, normal_sent, down_sent, next_by_action}
use Rattle.sdh_pointer.proofs.Forms.{normal_word, normal_value}
use Rattle.sdh_pointer.proofs.Coupling.{reads_what_is_sent}
use Rattle.sdh_pointer.proofs.Unmoved.{steady_is_normal}
use Rattle.sdh_pointer.proofs.Spreading.{values_spread, sending_start, reading_start, reading_after}
use Rattle.sdh_terminal.specs.Tributaries.{action_of}
use Rattle.sdh_terminal.specs.Outlets.{chunk_form}
use Rattle.sdh_laws.proofs.carrying.Clocks.{lasts}
use Rattle.sdh_spans.proofs.Sends.{ais_word}

-- the clocks of a port before each round: they go on by rounds, and between them only slips may come
pub record IsSource (clock : ℕ → Clock) : Type 0 where
  pub first : (clock 0).rest ≡ 4
  pub small : (r : ℕ) → (clock r).value ≤ 782
  pub value : (r : ℕ) → (clock (r + 1)).value ≡ (ticked (clock r)).value
  pub rest : (r : ℕ) → (clock (r + 1)).rest ≡ (ticked (clock r)).rest

rest_none : (c : Clock) (f : ChunkForm) → next_form c ≡ f → f ≢ Plain → c.rest ≡ 0
rest_none c f e other = by (nat_le 1 c.rest) refl
  where
    by : (b : Bool) → nat_le 1 c.rest ≡ b → c.rest ≡ 0
    by true t = absurd (other (sym e ∙ cond-true (nat_le 1 c.rest) Plain _ t))
    by false t = let z = leb-false 1 c.rest t in omega arith

plain_first : (c : Clock) → 1 ≤ c.rest → next_form c ≡ Plain
plain_first c h = cond-true (nat_le 1 c.rest) Plain _ (le-leb 1 c.rest h)

never_ais : (f : ChunkForm) → action_of f ≢ action.Ais
never_ais Plain e = cc
never_ais Short e = cc
never_ais Long e = cc

-- what a clock does next goes on from its value
goes_on_by : (c : Clock) (f : ChunkForm) (r : Reading) → next_form c ≡ f → 3 ≤ r.since + c.rest
    → GoesOn (Some c.value) (action_of f) (after_form f c).value r
goes_on_by c Plain r e h = refl
goes_on_by c Short r e h = (refl, (let z = rest_none c Short e (λ z. cc) in omega arith))
goes_on_by c Long r e h = (refl, (let z = rest_none c Long e (λ z. cc) in omega arith))

-- an interpreter counts rounds without a slip as the clock does
counts_by : (c : Clock) (f : ChunkForm) (r : Reading) → c.value ≤ 782 → next_form c ≡ f → r.mode ≡ mode.Norm → r.value ≡ c.value
    → 3 ≤ r.since + c.rest
    → 3 ≤ (after_word r (word_sent (Some c.value) (action_of f) (after_form f c).value)).since + (after_form f c).rest
unfolding after_step
counts_by c Plain r small e m is h =
    let g = c.value in
    let w = word_of form.Normal g in
    let i : Interpreter = record { reading = r; moved = false } in
    let steady = steady_is_normal i w (normal_word g small) m (is ∙ sym (normal_value g small)) in
    let since : (after_word r w).since ≡ min 3 (r.since + 1) = ap (λ (x : Reading). x.since) steady.next in
    let sent : word_sent (Some g) action.Normal g ≡ w = (normal_sent g g refl).word in
    let now : (after_word r (word_sent (Some g) action.Normal g)).since ≡ min 3 (r.since + 1) =
    ap (λ x. (after_word r x).since) sent ∙ since in
    omega arith
counts_by c Short r small e m is h = omega arith
counts_by c Long r small e m is h = omega arith

module _ (clock : ℕ → Clock) (source : IsSource clock) where
  abbrev pub form_in : ℕ → ChunkForm
  form_in r = next_form (clock r)

  -- the pointer value after round r
  abbrev pub value_in_round : ℕ → ℕ
  value_in_round r = (ticked (clock r)).value

  abbrev V : ℕ → ℕ
  V r = (ticked (clock r)).value

  -- k spans on, in round t
  abbrev pub does : ℕ → ℕ → Action
  does k t = if nat_lt t k then action.Ais else if nat_le 1 k && (t == k) then action.New else action_of (form_in (t - k))

  abbrev pub state : ℕ → ℕ → Option ℕ
  state k t = if nat_lt k t then Some (V (t - 1 - k)) else None

  abbrev pub said : ℕ → ℕ → ℕ
  said k t = word_sent (state k t) (does k t) (V (t - k))

  pub record Follows (k t : ℕ) (r : Reading) : Type 0 where
    pub before : t ≤ k → r ≡ start
    pub mode_is : k < t → r.mode ≡ mode.Norm
    pub value_is : k < t → r.value ≡ V (t - 1 - k)
    pub since_is : k < t → 3 ≤ r.since + (clock (t - k)).rest

  small_value : (r : ℕ) → V r ≤ 782
  small_value r = subst (λ x. x ≤ 782) (source.value r) (source.small (r + 1))

  pub does_before : (k t : ℕ) → t < k → does k t ≡ action.Ais
  does_before k t h = cond-true (nat_lt t k) _ _ (lt-ltb t k h)

  first_plain : form_in 0 ≡ Plain
  first_plain = plain_first (clock 0) (let f = source.first in omega arith)

  does_first : (k : ℕ) → does k k ≡ action_over (Some (V 0)) k k
  does_first k =
      ap (λ f. if nat_lt k k then action.Ais else if nat_le 1 k && (k == k) then action.New else action_of f)
      (ap form_in {x = k - k} {y = 0} (omega arith) ∙ first_plain)

  does_after : (k t : ℕ) → k < t → does k t ≡ action_of (form_in (t - k))
  does_after k t h =
      ap₂ (λ (a b : Bool). if a then action.Ais else if b then action.New else action_of (form_in (t - k))) (le-ltb t k (omega arith))
      (and_right (nat_le 1 k) (t == k) (ne_eqb t k (λ e. omega arith)))

  pub state_before : (k t : ℕ) → t ≤ k → state k t ≡ None
  state_before k t h = cond-false (nat_lt k t) _ _ (le-ltb k t h)

  state_after : (k t : ℕ) → k < t → state k t ≡ Some (V (t - 1 - k))
  state_after k t h = cond-true (nat_lt k t) _ _ (lt-ltb k t h)

  -- ---- one round, one span

  pub record Steps (k t : ℕ) : Type 0 where
    pub sending : (u : ℕ) → (k ≤ t → u ≡ V (t - k)) → next_sending (state k t) (does k t) u ≡ state k (t + 1)
    pub word : (u : ℕ) → (k ≤ t → u ≡ V (t - k)) → word_sent (state k t) (does k t) u ≡ said k t
    pub action : (r : Reading) → Follows (k + 1) (t + 1) r → action_on r (said k t) ≡ does (k + 1) (t + 1)
    pub reading : (r : Reading) → Follows (k + 1) (t + 1) r → Follows (k + 1) (t + 2) (after_word r (said k t))

  early : (k t : ℕ) → t < k → Steps k t
  early k t h =
      let none = state_before k t (omega arith) in
      let ais = does_before k t h in
      let silent : (u : ℕ) → word_sent (state k t) (does k t) u ≡ 65535 = λ u. ap₂ (λ s a. word_sent s a u) none ais ∙ ais_word None u in
      let spread = values_spread None k t tt in
      record {
        sending = λ u is. ap₂ (λ s a. next_sending s a u) none ais ∙ (ais_sent None u).next ∙ sym (state_before k (t + 1) (omega arith));
        word = λ u is. silent u ∙ sym (silent (V (t - k)));
        action =
            λ r is. ap₂ action_on (is.before (omega arith)) (silent (V (t - k))) ∙ spread.action
            ∙ sym (does_before (k + 1) (t + 1) (omega arith));
        reading = λ r is. record {
          before = λ z. ap₂ after_word (is.before (omega arith)) (silent (V (t - k))) ∙ spread.reading;
          mode_is = λ z. absurd (omega arith);
          value_is = λ z. absurd (omega arith);
          since_is = λ z. absurd (omega arith);
        };
      }

  at_first : (k : ℕ) → Steps k k
  unfolding ticked
  at_first k =
      let v = V 0 in
      let spread = values_spread (Some v) k k (small_value 0) in
      let none : state k k ≡ sending_over (Some v) k k = state_before k k (omega arith) ∙ sym (sending_start (Some v) k k (omega arith)) in
      let acts = does_first k in
      let zero_back : V (k - k) ≡ v = ap V {x = k - k} {y = 0} (omega arith) in
      let said_is : said k k ≡ word_over (Some v) k k =
      ap₂ (λ s a. word_sent s a (V (k - k))) none acts ∙ spread.word (V (k - k)) (λ z. zero_back) in
      let start_is : (r : Reading) → Follows (k + 1) (k + 1) r → r ≡ reading_over (Some v) (k + 1) (k + 1) =
      λ r is. is.before (omega arith) ∙ sym (reading_start (Some v) (k + 1) (k + 1) (omega arith)) in
      let next : (r : Reading) → Follows (k + 1) (k + 1) r → after_word r (said k k) ≡ nothing_counted mode.Norm v (min 3 (k + 2 - (k + 1 + 1))) =
      λ r is. ap₂ after_word (start_is r is) said_is ∙ spread.reading ∙ reading_after v (k + 1) (k + 2) (omega arith) in
      let rest_is : (clock 1).rest ≡ 3 =
      source.rest 0 ∙ ap (λ f. (after_form f (clock 0)).rest) first_plain ∙ (let f = source.first in omega arith) in
      let later_rest : (clock (k + 2 - (k + 1))).rest ≡ 3 =
      ap (λ j. (clock j).rest) {x = k + 2 - (k + 1)} {y = 1} (omega arith) ∙ rest_is in
      record {
        sending =
            λ u is. ap₂ (λ s a. next_sending s a u) none acts ∙ spread.sending u (λ z. is (omega arith) ∙ zero_back)
            ∙ ap (λ x. if nat_lt k (k + 1) then Some x else None) (ap V {x = 0} {y = k + 1 - 1 - k} (omega arith));
        word = λ u is. ap (word_sent (state k k) (does k k)) (is (omega arith));
        action = λ r is. ap₂ action_on (start_is r is) said_is ∙ spread.action ∙ sym (does_first (k + 1));
        reading = λ r is. record {
          before = λ z. absurd (omega arith);
          mode_is = λ z. ap (λ (x : Reading). x.mode) (next r is);
          value_is = λ z. ap (λ (x : Reading). x.value) (next r is) ∙ ap V {x = 0} {y = k + 2 - 1 - (k + 1)} (omega arith);
          since_is = λ z. (let s = ap (λ (x : Reading). x.since) (next r is) in omega (arith, later_rest));
        };
      }

  module _ (k t : ℕ) (h : k < t) where
    abbrev j : ℕ
    j = t - k

    abbrev c : Clock
    c = clock j

    abbrev g : ℕ
    g = c.value

    before_is : V (t - 1 - k) ≡ g
    before_is = sym (source.value (t - 1 - k)) ∙ ap (λ r. (clock r).value) {x = t - 1 - k + 1} {y = j} (omega arith)

    state_now : state k t ≡ Some g
    state_now = state_after k t h ∙ ap Some before_is

    said_now : said k t ≡ word_sent (Some g) (action_of (form_in j)) (V j)
    said_now = ap₂ (λ s a. word_sent s a (V j)) state_now (does_after k t h)

    next_now : (u : ℕ) → u ≡ V j → next_sending (state k t) (does k t) u ≡ Some (V j)
    next_now u is =
        ap (next_sending (state k t) (does k t)) is ∙ ap₂ (λ s a. next_sending s a (V j)) state_now (does_after k t h)
        ∙ next_by_action (Some g) (action_of (form_in j)) (V j) ∙ lasts (form_in j) (V j)

    module _ (r : Reading) (is : Follows (k + 1) (t + 1) r) where
      in_mode : r.mode ≡ mode.Norm
      in_mode = is.mode_is (omega arith)

      in_value : r.value ≡ g
      in_value = is.value_is (omega arith) ∙ ap V {x = t + 1 - 1 - (k + 1)} {y = t - 1 - k} (omega arith) ∙ before_is

      in_since : 3 ≤ r.since + c.rest
      in_since = subst (λ x. 3 ≤ r.since + (clock x).rest) {x = t + 1 - (k + 1)} {y = j} (omega arith) (is.since_is (omega arith))

      goes : GoesOn (Some g) (action_of (form_in j)) (V j) r
      unfolding ticked
      goes = goes_on_by c (form_in j) r refl in_since

      counts : 3 ≤ (after_word r (said k t)).since + (ticked c).rest
      unfolding ticked
      counts =
          subst (λ x. 3 ≤ (after_word r x).since + (after_form (next_form c) c).rest) (sym said_now)
          (counts_by c (form_in j) r (source.small j) refl in_mode in_value in_since)

      read_is : (action_on r (said k t) ≡ action_of (form_in j)) × IsInStep (Some (V j)) (after_word r (said k t))
      read_is =
          let read = reads_what_is_sent (Some g) (action_of (form_in j)) (V j) r (small_value j) (in_mode, in_value, source.small j) goes in
          let next : next_sending (Some g) (action_of (form_in j)) (V j) ≡ Some (V j) =
          next_by_action (Some g) (action_of (form_in j)) (V j) ∙ lasts (form_in j) (V j) in (
            ap (action_on r) said_now ∙ read.answer,
            subst (λ x. IsInStep (Some (V j)) (after_word r x)) (sym said_now)
                (subst (λ s. IsInStep s (after_word r (word_sent (Some g) (action_of (form_in j)) (V j)))) next read.in_step),
          )

    late : Steps k t
    late = record {
      sending =
          λ u is. next_now u (is (omega arith)) ∙ sym (state_after k (t + 1) (omega arith)
          ∙ ap (λ x. Some (V x)) {x = t + 1 - 1 - k} {y = j} (omega arith));
      word = λ u is. ap (word_sent (state k t) (does k t)) (is (omega arith));
      action =
          λ r is. (read_is r is).0 ∙ sym (does_after (k + 1) (t + 1) (omega arith)
          ∙ ap (λ x. action_of (form_in x)) {x = t + 1 - (k + 1)} {y = j} (omega arith));
      reading = λ r is. record {
        before = λ z. absurd (omega arith);
        mode_is = λ z. (read_is r is).1.0;
        value_is = λ z. (read_is r is).1.1 ∙ ap V {x = j} {y = t + 2 - 1 - (k + 1)} (omega arith);
        since_is =
            λ z. subst (λ x. 3 ≤ (after_word r (said k t)).since + x)
            (sym (ap (λ x. (clock x).rest) {x = t + 2 - (k + 1)} {y = j + 1} (omega arith) ∙ source.rest j)) (counts r is);
      };
    }

  pub spreads : (k t : ℕ) → Steps k t
  spreads k t = elim (cases_lt t k) [
    | inl before ↦ early k t before
    | inr reached ↦ elim (cases_eq t k) [
      | inl now ↦ subst (Steps k) (sym now) (at_first k)
      | inr other ↦ late k t (omega arith)
    ]
  ]

  -- ---- a negative justification keeps its H3 bytes from span to span

  down_is_long : (f : ChunkForm) → action_of f ≡ action.Down → f ≡ Long
  down_is_long Plain e = cc
  down_is_long Short e = cc
  down_is_long Long e = refl

  new_not_down : action.New ≡ action.Down → ⊥
  new_not_down z = cc

  normal_not_down : action.Normal ≡ action.Down → ⊥
  normal_not_down z = cc

  -- by whether it is new
  first_by : (k : ℕ) (b : Bool) → (if nat_lt k k then action.Ais else if b then action.New else action.Normal)
      ≡ (if b then action.New else action.Normal)
  first_by k b = cond-false (nat_lt k k) action.Ais _ (le-ltb k k (omega arith))

  no_down : (b : Bool) → (if b then action.New else action.Normal) ≡ action.Down → ⊥
  no_down true z = new_not_down z
  no_down false z = normal_not_down z

  first_not_down : (k : ℕ) → does k k ≡ action.Down → ⊥
  first_not_down k e = no_down (nat_le 1 k && (k == k)) (sym (first_by k (nat_le 1 k && (k == k))) ∙ sym (does_first k) ∙ e)

  early_not_down : (k t : ℕ) → t < k → does k t ≡ action.Down → ⊥
  early_not_down k t h e = apart (sym (does_before k t h) ∙ e)
    where
      apart : action.Ais ≡ action.Down → ⊥
      apart z = cc

  -- a pointer step down comes later than the first bytes
  pub down_late : (k t : ℕ) → does k t ≡ action.Down → k < t
  down_late k t e = elim (cases_lt t k) [
    | inl before ↦ absurd (early_not_down k t before e)
    | inr reached ↦ elim (cases_eq t k) [
      | inl now ↦ absurd (first_not_down k (subst (λ x. does k x ≡ action.Down) now e))
      | inr other ↦ omega arith
    ]
  ]

  pub down_back : (k t : ℕ) → does (k + 1) (t + 1) ≡ action.Down → does k t ≡ action.Down
  down_back k t e =
      let after = down_late (k + 1) (t + 1) e in
      does_after k t (omega arith) ∙ ap (λ x. action_of (form_in x)) {x = t - k} {y = t + 1 - (k + 1)} (omega arith)
      ∙ sym (does_after (k + 1) (t + 1) after) ∙ e

  pub down_form : (k t u : ℕ) → does k t ≡ action.Down → u ≡ V (t - k) → form_sent (state k t) (does k t) u ≡ form.Down
  unfolding ticked
  down_form k t u e is =
      let h = down_late k t e in
      let long : form_in (t - k) ≡ Long = down_is_long (form_in (t - k)) (sym (does_after k t h) ∙ e) in
      let c = clock (t - k) in
      let down : V (t - k) ≡ one_down c.value = ap (λ f. (after_form f c).value) long in
      ap₂ (λ s a. form_sent s a u) (state_now k t h) e ∙ (down_sent c.value u (is ∙ down)).form

  -- ---- the chunk's form follows from what arrives

  chunk_by : (f : ChunkForm) → chunk_form (action_of f) ≡ f
  chunk_by Plain = refl
  chunk_by Short = refl
  chunk_by Long = refl

  plain_by : (b : Bool) → chunk_form (if b then action.New else action.Normal) ≡ Plain
  plain_by true = refl
  plain_by false = refl

  chunk_first : (k : ℕ) → chunk_form (does k k) ≡ Plain
  chunk_first k = ap chunk_form (does_first k ∙ first_by k (nat_le 1 k && (k == k))) ∙ plain_by (nat_le 1 k && (k == k))

  pub chunk_is : (k t : ℕ) → k ≤ t → chunk_form (does k t) ≡ form_in (t - k)
  chunk_is k t h = elim (cases_eq t k) [
    | inl now ↦ subst (λ x. chunk_form (does k x) ≡ form_in (x - k)) (sym now)
        (chunk_first k ∙ sym first_plain ∙ ap form_in {x = 0} {y = k - k} (omega arith))
    | inr other ↦ ap chunk_form (does_after k t (omega arith)) ∙ chunk_by (form_in (t - k))
  ]

  no_ais : (b : Bool) → (if b then action.New else action.Normal) ≡ action.Ais → ⊥
  no_ais true z = cc
  no_ais false z = cc

  pub not_ais : (k t : ℕ) → k ≤ t → does k t ≢ action.Ais
  not_ais k t h e = elim (cases_eq t k) [
    | inl now ↦ no_ais (nat_le 1 k && (k == k)) (sym (first_by k (nat_le 1 k && (k == k))) ∙ sym (does_first k)
        ∙ subst (λ x. does k x ≡ action.Ais) now e)
    | inr other ↦ never_ais (form_in (t - k)) (sym (does_after k t (omega arith)) ∙ e)
  ]

  pub does_zero : (t : ℕ) → does 0 t ≡ action_of (form_in t)
  does_zero t =
      cond-false (nat_lt t 0) action.Ais (action_of (form_in (t - 0))) (le-ltb t 0 (omega arith))
      ∙ ap (λ x. action_of (form_in x)) {x = t - 0} {y = t} (omega arith)

  pub long_down : (k t : ℕ) → k ≤ t → form_in (t - k) ≡ Long → does k t ≡ action.Down
  long_down k t h e = elim (cases_eq t k) [
    | inl now ↦ absurd (apart (sym first_plain ∙ ap form_in {x = 0} {y = t - k} (omega arith) ∙ e))
    | inr other ↦ does_after k t (omega arith) ∙ ap action_of e
  ]
    where
      apart : Plain ≡ Long → ⊥
      apart z = cc
