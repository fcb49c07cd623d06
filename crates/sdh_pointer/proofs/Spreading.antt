-- A source followed from span to span.
use Rattle.std.proofs.Common.{◌≡◌, ◌≢◌, ℕ, zero, suc, ◌+◌, ◌-◌, ◌<◌, ◌≤◌, Bool, true, false, Option, Some, None, refl, ap, ap₂, sym, ◌∙◌}
use Rattle.std.proofs.Common.{arith, inl, inr}
use Rattle.std.specs.Prelude.{◌&&◌, nat_le, min, if◌then◌else◌}
use Rattle.std.proofs.lemmas.Bool.{cases_lt, cases_eq, le-leb, lt-ltb, le-ltb, eq-eqb, ne_eqb}
use Rattle.sdh_pointer.specs.declared.reading.Reading.{Reading}
use Rattle.sdh_pointer.specs.declared.reading.Mode.TheVariants as mode
use Rattle.sdh_pointer.specs.declared.reading.Event.TheVariants as event
use Rattle.sdh_pointer.specs.declared.reading.Action.TheVariants as action
use Rattle.sdh_pointer.specs.declared.word.Form.TheVariants as form
use Rattle.sdh_pointer.specs.Words.{word_of}
use Rattle.sdh_pointer.specs.Reading.{start, nothing_counted, later, after_word, action_on}
use Rattle.sdh_pointer.specs.Sending.{next_sending, word_sent}
use Rattle.sdh_pointer.specs.Spreading.{action_over, word_over, sending_over, reading_over}
use Rattle.sdh_pointer.specs.Laws.{ValuesSpread}
use Rattle.sdh_pointer.proofs.Forms.{normal_word, normal_value, enabled_word, enabled_value, of_enabled, of_ones}
use Rattle.sdh_pointer.proofs.Rows.{ais_ais_action, ais_ndf_action}
use Rattle.sdh_pointer.proofs.Sent.{ais_sent, first_sent, normal_sent}
use Rattle.sdh_pointer.proofs.Settling.{same, same_action, action_by_event, enabled_word_settles, ais_stays}

-- ---- actions and readings, by cases: before round h, in it, and after it

action_before : (v h t : ℕ) → t < h → action_over (Some v) h t ≡ action.Ais
action_before v h t lt = let e = lt-ltb t h lt in rw e refl

action_first : (v h : ℕ) → action_over (Some v) (suc h) (suc h) ≡ action.New
action_first v h =
    let e = le-ltb (suc h) (suc h) (omega arith) in
    let f = le-leb 1 (suc h) (omega arith) in
    let g = eq-eqb (suc h) (suc h) refl in
    rw (e, f, g) refl

action_after : (v h t : ℕ) → h < t → action_over (Some v) h t ≡ action.Normal
action_after v h t late =
    let e = le-ltb t h (omega arith) in
    let g = ne_eqb t h (λ z. omega arith) in
    rw (e, g) (never (nat_le 1 h))
  where
    never : (b : Bool) → (if b && false then action.New else action.Normal) ≡ action.Normal
    never true = refl
    never false = refl

-- at the source
pub source_sends : (v t : ℕ) → action_over (Some v) 0 t ≡ action.Normal
source_sends v t = let e = le-ltb t 0 (omega arith) in rw e refl

action_there : (v h : ℕ) → action_over (Some v) h h ≢ action.Ais
action_there v zero e = let n : action.Normal ≡ action.Ais = sym (source_sends v zero) ∙ e in cc
action_there v (suc h) e = let n : action.New ≡ action.Ais = sym (action_first v h) ∙ e in cc

word_before : (v h t : ℕ) → t < h → word_over (Some v) h t ≡ 65535
word_before v h t lt = let e = lt-ltb t h lt in rw e refl

word_first : (v h t : ℕ) → t ≡ h → word_over (Some v) h t ≡ word_of form.Enabled v
word_first v h t is = let e = le-ltb t h (omega arith) in let g = eq-eqb t h is in rw (e, g) refl

word_after : (v h t : ℕ) → h < t → word_over (Some v) h t ≡ word_of form.Normal v
word_after v h t late = let e = le-ltb t h (omega arith) in let g = ne_eqb t h (λ z. omega arith) in rw (e, g) refl

sending_before : (v h t : ℕ) → t ≤ h → sending_over (Some v) h t ≡ None
sending_before v h t le = let e = le-ltb h t le in rw e refl

sending_after : (v h t : ℕ) → h < t → sending_over (Some v) h t ≡ Some v
sending_after v h t late = let e = lt-ltb h t late in rw e refl

reading_before : (v h t : ℕ) → t ≤ h → reading_over (Some v) h t ≡ start
reading_before v h t le = let e = le-ltb h t le in rw e refl

pub reading_after : (v h t : ℕ) → h < t → reading_over (Some v) h t ≡ nothing_counted mode.Norm v (min 3 (t - (h + 1)))
reading_after v h t late = let e = lt-ltb h t late in rw e refl

-- ---- the generator

module _ (v h t u : ℕ) (value : h ≤ t → u ≡ v) where
  next_is : next_sending (sending_over (Some v) h t) (action_over (Some v) h t) u ≡ sending_over (Some v) h (t + 1)
  next_is = elim (cases_lt t h) [
    | inl early ↦ ap (λ a. next_sending (sending_over (Some v) h t) a u) (action_before v h t early)
        ∙ (ais_sent (sending_over (Some v) h t) u).next ∙ sym (sending_before v h (t + 1) (omega arith))
    | inr there ↦ elim (cases_eq t h) [
      | inl now ↦ ap (λ s. next_sending s (action_over (Some v) h t) u) (sending_before v h t (omega arith))
          ∙ (first_sent (action_over (Some v) h t) u (λ e. action_there v h (ap (action_over (Some v) h) (sym now) ∙ e))).next
          ∙ ap Some (value there) ∙ sym (sending_after v h (t + 1) (omega arith))
      | inr other ↦ ap₂ (λ s a. next_sending s a u) (sending_after v h t (omega arith)) (action_after v h t (omega arith))
          ∙ (normal_sent v u (value there)).next
          ∙ ap Some (value there) ∙ sym (sending_after v h (t + 1) (omega arith))
    ]
  ]

  word_is : word_sent (sending_over (Some v) h t) (action_over (Some v) h t) u ≡ word_over (Some v) h t
  unfolding word_of
  word_is = elim (cases_lt t h) [
    | inl early ↦ ap (λ a. word_sent (sending_over (Some v) h t) a u) (action_before v h t early)
        ∙ (ais_sent (sending_over (Some v) h t) u).word ∙ sym (word_before v h t early)
    | inr there ↦ elim (cases_eq t h) [
      | inl now ↦ ap (λ s. word_sent s (action_over (Some v) h t) u) (sending_before v h t (omega arith))
          ∙ (first_sent (action_over (Some v) h t) u (λ e. action_there v h (ap (action_over (Some v) h) (sym now) ∙ e))).word
          ∙ ap (word_of form.Enabled) (value there) ∙ sym (word_first v h t now)
      | inr other ↦ ap₂ (λ s a. word_sent s a u) (sending_after v h t (omega arith)) (action_after v h t (omega arith))
          ∙ (normal_sent v u (value there)).word
          ∙ sym (word_after v h t (omega arith))
    ]
  ]

-- ---- the interpreter after it

start_ais : after_word start 65535 ≡ start
start_ais = ais_stays 0

start_answer : action_on start 65535 ≡ action.Ais
start_answer = action_by_event start 65535 mode.Ais event.Ais refl (of_ones start) ∙ ais_ais_action start

module _ (v : ℕ) (small : v ≤ 782) where
  enters : after_word start (word_of form.Enabled v) ≡ nothing_counted mode.Norm v 0
  enters =
      enabled_word_settles start (word_of form.Enabled v) 1 (enabled_word v small) (let e = enabled_value v small in omega arith)
      (omega arith)
      ∙ ap (λ u. nothing_counted mode.Norm u 0) (enabled_value v small)

  enters_new : action_on start (word_of form.Enabled v) ≡ action.New
  enters_new =
      action_by_event start (word_of form.Enabled v) mode.Ais (event.Ndf v) refl (of_enabled start v small) ∙ ais_ndf_action start v

  counts : (s : ℕ) → after_word (nothing_counted mode.Norm v s) (word_of form.Normal v) ≡ nothing_counted mode.Norm v (later s)
  counts s = same (word_of form.Normal v) v (normal_word v small) (normal_value v small) (nothing_counted mode.Norm v s) refl refl

  counts_normal : (s : ℕ) → action_on (nothing_counted mode.Norm v s) (word_of form.Normal v) ≡ action.Normal
  counts_normal s = same_action (word_of form.Normal v) v (normal_word v small) (normal_value v small) (nothing_counted mode.Norm v s) refl refl

  module _ (h t : ℕ) where
    abbrev far : ℕ
    far = h + 1

    abbrev now : ℕ
    now = t + 1

    reading_is : after_word (reading_over (Some v) far now) (word_over (Some v) h t) ≡ reading_over (Some v) far (t + 2)
    reading_is = elim (cases_lt t h) [
      | inl early ↦ ap₂ after_word (reading_before v far now (omega arith)) (word_before v h t early) ∙ start_ais
          ∙ sym (reading_before v far (t + 2) (omega arith))
      | inr there ↦ elim (cases_eq t h) [
        | inl is ↦ ap₂ after_word (reading_before v far now (omega arith)) (word_first v h t is) ∙ enters
            ∙ ap (nothing_counted mode.Norm v) {x = 0} {y = min 3 (t + 2 - (far + 1))} (omega arith)
            ∙ sym (reading_after v far (t + 2) (omega arith))
        | inr other ↦ ap₂ after_word (reading_after v far now (omega arith)) (word_after v h t (omega arith))
            ∙ counts (min 3 (now - (far + 1)))
            ∙ ap (nothing_counted mode.Norm v) {x = later (min 3 (now - (far + 1)))} {y = min 3 (t + 2 - (far + 1))} (omega arith)
            ∙ sym (reading_after v far (t + 2) (omega arith))
      ]
    ]

    action_is : action_on (reading_over (Some v) far now) (word_over (Some v) h t) ≡ action_over (Some v) far now
    action_is = elim (cases_lt t h) [
      | inl early ↦ ap₂ action_on (reading_before v far now (omega arith)) (word_before v h t early) ∙ start_answer
          ∙ sym (action_before v far now (omega arith))
      | inr there ↦ elim (cases_eq t h) [
        | inl is ↦ ap₂ action_on (reading_before v far now (omega arith)) (word_first v h t is) ∙ enters_new
            ∙ sym (action_first v h) ∙ ap₂ (action_over (Some v)) (let e : suc h ≡ far = omega arith in e)
            (let e : suc h ≡ now = omega arith in e)
        | inr other ↦ ap₂ action_on (reading_after v far now (omega arith)) (word_after v h t (omega arith))
            ∙ counts_normal (min 3 (now - (far + 1)))
            ∙ sym (action_after v far now (omega arith))
      ]
    ]

pub values_spread : ValuesSpread
unfolding word_of
values_spread None h t small = record {
  sending = λ u is. (ais_sent None u).next;
  word = λ u is. (ais_sent None u).word;
  reading = start_ais;
  action = start_answer;
}
values_spread (Some v) h t small = record {
  sending = λ u is. next_is v h t u is;
  word = λ u is. word_is v h t u is;
  reading = reading_is v small h t;
  action = action_is v small h t;
}

-- ---- readings before the first round and in the end

pub reading_start : (o : Option ℕ) (h t : ℕ) → t ≤ h → reading_over o h t ≡ start
reading_start None h t le = refl
reading_start (Some v) h t le = reading_before v h t le

pub action_start : (o : Option ℕ) (h t : ℕ) → t < h → action_over o h t ≡ action.Ais
action_start None h t lt = refl
action_start (Some v) h t lt = action_before v h t lt

pub sending_start : (o : Option ℕ) (h t : ℕ) → t ≤ h → sending_over o h t ≡ None
sending_start None h t le = refl
sending_start (Some v) h t le = sending_before v h t le

pub reading_value : (v h t : ℕ) → h < t → (reading_over (Some v) h t).value ≡ v
reading_value v h t late = ap (λ (r : Reading). r.value) (reading_after v h t late)

-- four rounds after the source's value came there nothing changes any more
pub reading_stays : (o : Option ℕ) (h t : ℕ) → h + 4 ≤ t → reading_over o h (t + 1) ≡ reading_over o h t
reading_stays None h t late = refl
reading_stays (Some v) h t late =
    reading_after v h (t + 1) (omega arith) ∙ ap (nothing_counted mode.Norm v) {x = min 3 (t + 1 - (h + 1))} {y = min 3 (t - (h + 1))} (omega arith)
    ∙ sym (reading_after v h t (omega arith))

pub sending_stays : (o : Option ℕ) (h t : ℕ) → h < t → sending_over o h (t + 1) ≡ sending_over o h t
sending_stays None h t late = refl
sending_stays (Some v) h t late = sending_after v h (t + 1) (omega arith) ∙ sym (sending_after v h t late)
