-- Interpreters and generators that calm rounds don't move.
use Rattle.std.proofs.Common.{◌≡◌, ℕ, ◌+◌, ◌≤◌, Bool, true, false, Option, Some, None, refl, ap, ap₂, sym, ◌∙◌, subst, arith, inl, inr, ◌⊎◌}
use Rattle.std.specs.Prelude.{nat_le, not, if◌then◌else◌}
use Rattle.sdh_pointer.specs.declared.reading.Reading.{Reading}
use Rattle.sdh_pointer.specs.declared.reading.Mode.TheVariants as mode
use Rattle.sdh_pointer.specs.declared.reading.Event.{Event}
use Rattle.sdh_pointer.specs.declared.reading.Event.TheVariants as event
use Rattle.sdh_pointer.specs.declared.reading.Action.{Action}
use Rattle.sdh_pointer.specs.declared.reading.Action.TheVariants as action
use Rattle.sdh_pointer.specs.declared.word.Form.TheVariants as form
use Rattle.sdh_pointer.specs.Words.{is_normal, value_in, word_of}
use Rattle.sdh_pointer.specs.Reading.{Interpreter, is_norm, event_of, after_in, action_in, after_word, action_on, reading_row_of}
use Rattle.sdh_pointer.specs.Reading.{reading_table, nothing_counted, with_bad, later}
use Rattle.sdh_pointer.specs.Laws.{is_ais_action}
use Rattle.sdh_pointer.specs.Sending.{word_sent, next_sending}
use Rattle.sdh_pointer.proofs.Bounds.{answer_tells_mode}
use Rattle.sdh_pointer.proofs.Forms.{normal_word, normal_value}
use Rattle.sdh_pointer.proofs.Rows.{norm_ndf, norm_up, norm_down, norm_new, norm_ais, norm_same_action}
use Rattle.sdh_pointer.proofs.Sent.{normal_sent, next_by_action}
use Rattle.sdh_pointer.proofs.Settling.{by_event, action_by_event}
use Rattle.sdh_pointer.proofs.Unmoved.{kept_is_unmoved, unmoved_is_normal, unmoved_is_ais}
use Rattle.sdh_spans.proofs.Sends.{ais_word}

-- ---- what goes in

-- AIS, or bytes with a pointer value, as in every round before
abbrev pub IsEven : Action → ℕ → Type 0
IsEven a v = (a ≡ action.Ais) ⊎ ((a ≡ action.Normal) × (v ≤ 782))

-- the word that a generator in a state repeats
abbrev pub state_word : Option ℕ → ℕ
state_word None = 65535
state_word (Some v) = word_of form.Normal v

-- a word of all ones, or a normal one with a value of at most 782
abbrev pub IsEvenWord : ℕ → Type 0
IsEvenWord w = (w ≡ 65535) ⊎ ((v : ℕ) × (v ≤ 782) × (w ≡ word_of form.Normal v))

-- a generator that AIS leaves in its state sends the word of its state
sends_ais : (s : Option ℕ) (v : ℕ) → next_sending s action.Ais v ≡ s → word_sent s action.Ais v ≡ state_word s
sends_ais s v still = ais_word s v ∙ ap state_word (sym (next_by_action s action.Ais v) ∙ still)

sends_normal : (s : Option ℕ) (v : ℕ) → next_sending s action.Normal v ≡ s → word_sent s action.Normal v ≡ state_word s
sends_normal s v still =
    let state : Some v ≡ s = sym (next_by_action s action.Normal v) ∙ still in
    ap (λ x. word_sent x action.Normal v) (sym state) ∙ (normal_sent v v refl).word ∙ ap state_word state

pub sends_state : (s : Option ℕ) (a : Action) (v : ℕ) → IsEven a v → next_sending s a v ≡ s → word_sent s a v ≡ state_word s
sends_state s a v (inl e) still = ap (λ x. word_sent s x v) e ∙ sends_ais s v (ap (λ x. next_sending s x v) (sym e) ∙ still)
sends_state s a v (inr e) still = ap (λ x. word_sent s x v) e.0 ∙ sends_normal s v (ap (λ x. next_sending s x v) (sym e.0) ∙ still)

pub sends_even : (s : Option ℕ) (a : Action) (v : ℕ) → IsEven a v → next_sending s a v ≡ s → IsEvenWord (word_sent s a v)
sends_even s a v (inl e) still = inl (ap (λ x. word_sent s x v) e ∙ ais_word s v)
sends_even s a v (inr e) still =
    let state : s ≡ Some v = sym still ∙ ap (λ x. next_sending s x v) e.0 ∙ next_by_action s action.Normal v in
    inr (v, e.1, ap₂ (λ y x. word_sent y x v) state e.0 ∙ (normal_sent v v refl).word)

-- ---- an interpreter

-- an interpreter is in the state to which one normal word leads if it is read again and again, or isn't in Norm
abbrev pub IsGood : Reading → Type 0
IsGood r = ((v : ℕ) × (v ≤ 782) × (r ≡ nothing_counted mode.Norm v 3)) ⊎ (is_norm r.mode ≡ false)

pub ais_from : (a : Action) → is_ais_action a ≡ true → a ≡ action.Ais
ais_from action.Ais e = refl
ais_from action.Normal e = cc
ais_from action.New e = cc
ais_from action.Up e = cc
ais_from action.Down e = cc

not_norm : (b : Bool) → true ≡ not b → b ≡ false
not_norm true e = cc
not_norm false e = refl

norm_bad : (r : Reading) → after_in mode.Norm event.Bad r ≡
    (if nat_le 8 (r.bad + 1) then nothing_counted mode.Lop r.value 0 else with_bad r (later r.since))
unfolding after_in reading_row_of reading_table
norm_bad r = refl

-- an event that leaves a settled interpreter in Norm as it is gives the action Normal
kept_event : (v : ℕ) (e : Event) → after_in mode.Norm e (nothing_counted mode.Norm v 3) ≡ nothing_counted mode.Norm v 3
    → action_in mode.Norm e (nothing_counted mode.Norm v 3) ≡ action.Normal
kept_event v event.Same h = norm_same_action (nothing_counted mode.Norm v 3)
kept_event v (event.Ndf x) h =
    absurd (let s : 0 ≡ 3 = ap (λ (r : Reading). r.since) (sym (norm_ndf (nothing_counted mode.Norm v 3) x) ∙ h) in omega arith)
kept_event v event.Up h = absurd (let s : 0 ≡ 3 = ap (λ (r : Reading). r.since) (sym (norm_up (nothing_counted mode.Norm v 3)) ∙ h) in omega arith)
kept_event v event.Down h =
    absurd (let s : 0 ≡ 3 = ap (λ (r : Reading). r.since) (sym (norm_down (nothing_counted mode.Norm v 3)) ∙ h) in omega arith)
kept_event v (event.New x) h =
    absurd (let s : 1 ≡ 0 = ap (λ (r : Reading). r.news) (sym (norm_new (nothing_counted mode.Norm v 3) x) ∙ h) in omega arith)
kept_event v event.Ais h = absurd (let s : 1 ≡ 0 = ap (λ (r : Reading). r.ais) (sym (norm_ais (nothing_counted mode.Norm v 3)) ∙ h) in omega arith)
kept_event v event.Bad h = absurd (let s : 1 ≡ 0 = ap (λ (r : Reading). r.bad) (sym (norm_bad (nothing_counted mode.Norm v 3)) ∙ h) in omega arith)

-- a good interpreter that a word doesn't move answers as it does after one word for ever
pub good_answers : (r : Reading) (w : ℕ) → IsGood r → after_word r w ≡ r → IsEven (action_on r w) r.value
good_answers r w (inl (v, small, is)) still =
    let e = event_of r w in
    let norm : r.mode ≡ mode.Norm = ap (λ (x : Reading). x.mode) is in
    let kept = subst (λ x. after_in mode.Norm e x ≡ x) is (sym (by_event r w mode.Norm e norm refl) ∙ still) in
    let value : r.value ≡ v = ap (λ (x : Reading). x.value) is in
    inr (action_by_event r w mode.Norm e norm refl ∙ ap (action_in mode.Norm e) is ∙ kept_event v e kept, omega arith)
good_answers r w (inr none) still =
    inl (ais_from (action_on r w) (answer_tells_mode r w ∙ ap (λ (x : Reading). not (is_norm x.mode)) still ∙ ap not none))

-- an interpreter that an even word doesn't move is good
pub good_behind : (r : Reading) (w : ℕ) → IsEvenWord w → after_word r w ≡ r → IsGood r
good_behind r w (inl ones) still =
    let i : Interpreter = record { reading = r; moved = false } in
    let kept : after_word r 65535 ≡ r = ap (after_word r) (sym ones) ∙ still in
    let ais = unmoved_is_ais i (kept_is_unmoved i 65535 kept) in
    inr (not_norm (is_norm r.mode) (sym (ap is_ais_action ais) ∙ answer_tells_mode r 65535
    ∙ ap (λ (x : Reading). not (is_norm x.mode)) kept))
good_behind r w (inr (v, small, is)) still =
    let i : Interpreter = record { reading = r; moved = false } in
    let value : value_in w ≡ v = ap value_in is ∙ normal_value v small in
    let p = unmoved_is_normal i w (ap is_normal is ∙ normal_word v small) (omega arith) (kept_is_unmoved i w still) in
    inl (value_in w, omega arith, p.kept)
