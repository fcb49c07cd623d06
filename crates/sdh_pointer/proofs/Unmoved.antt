-- An interpreter that a step doesn't move.
use Rattle.std.proofs.Common.{◌≡◌, ◌↔◌, ℕ, ◌≤◌, Bool, true, false, refl, ap, sym, ◌∙◌, arith, Option, Some, None}
use Rattle.std.specs.Prelude.{◌&&◌, not}
use Rattle.std.proofs.lemmas.Bool.{eq-eqb, eqb-true, not-false}
use Rattle.sdh_pointer.specs.declared.reading.Reading.{Reading}
use Rattle.sdh_pointer.specs.declared.reading.Mode.{Mode}
use Rattle.sdh_pointer.specs.declared.reading.Mode.TheVariants as mode
use Rattle.sdh_pointer.specs.declared.reading.Event.TheVariants as event
use Rattle.sdh_pointer.specs.declared.reading.Action.{Action}
use Rattle.sdh_pointer.specs.declared.reading.Action.TheVariants as action
use Rattle.sdh_pointer.specs.Words.{is_normal, value_in}
use Rattle.sdh_pointer.specs.Reading.{Interpreter, after_word, after_step, action_on, same_mode, same_reading, nothing_counted, later}
use Rattle.sdh_pointer.specs.Sending.{Generator, after_action, same_sending}
use Rattle.sdh_pointer.specs.Laws.{IsPassed, IsSteady}
use Rattle.sdh_pointer.proofs.Forms.{of_ones}
use Rattle.sdh_pointer.proofs.Rows.{ais_ais_action}
use Rattle.sdh_pointer.proofs.Sent.{state_itself}
use Rattle.sdh_pointer.proofs.Settling.{action_by_event, stays_for, same, same_action, stays, normal_word_settles, ais_settles}

-- ---- two readings are equal where the test says so

same_modes : (a b : Mode) → same_mode a b ≡ true → a ≡ b
same_modes mode.Norm mode.Norm h = refl
same_modes mode.Ais mode.Ais h = refl
same_modes mode.Lop mode.Lop h = refl
same_modes mode.Norm mode.Ais h = cc
same_modes mode.Norm mode.Lop h = cc
same_modes mode.Ais mode.Norm h = cc
same_modes mode.Ais mode.Lop h = cc
same_modes mode.Lop mode.Norm h = cc
same_modes mode.Lop mode.Ais h = cc

mode_itself : (m : Mode) → same_mode m m ≡ true
mode_itself mode.Norm = refl
mode_itself mode.Ais = refl
mode_itself mode.Lop = refl

same_fields : (a b : Reading) → a.mode ≡ b.mode → a.value ≡ b.value → a.ais ≡ b.ais → a.bad ≡ b.bad → a.candidate ≡ b.candidate
    → a.news ≡ b.news → a.since ≡ b.since → a ≡ b
same_fields a b m v x y c n s = λ i. record { mode = m i; value = v i; ais = x i; bad = y i; candidate = c i; news = n i; since = s i }

all_seven : (a b : Reading) (t1 t2 t3 t4 t5 t6 t7 : Bool) → (t1 && t2 && t3 && t4 && t5 && t6 && t7) ≡ true → (t1 ≡ true → a.mode ≡ b.mode)
    → (t2 ≡ true → a.value ≡ b.value) → (t3 ≡ true → a.ais ≡ b.ais)
    → (t4 ≡ true → a.bad ≡ b.bad) → (t5 ≡ true → a.candidate ≡ b.candidate) → (t6 ≡ true → a.news ≡ b.news)
    → (t7 ≡ true → a.since ≡ b.since) → a ≡ b
all_seven a b true true true true true true true h m v ais bad c n s =
    same_fields a b (m refl) (v refl) (ais refl) (bad refl) (c refl) (n refl) (s refl)
all_seven a b false t2 t3 t4 t5 t6 t7 h m v ais bad c n s = absurd (cc)
all_seven a b true false t3 t4 t5 t6 t7 h m v ais bad c n s = absurd (cc)
all_seven a b true true false t4 t5 t6 t7 h m v ais bad c n s = absurd (cc)
all_seven a b true true true false t5 t6 t7 h m v ais bad c n s = absurd (cc)
all_seven a b true true true true false t6 t7 h m v ais bad c n s = absurd (cc)
all_seven a b true true true true true false t7 h m v ais bad c n s = absurd (cc)
all_seven a b true true true true true true false h m v ais bad c n s = absurd (cc)

pub same_readings : (a b : Reading) → same_reading a b ≡ true → a ≡ b
unfolding same_reading
same_readings a b h =
    all_seven a b _ _ _ _ _ _ _ h (same_modes a.mode b.mode) (eqb-true _ _) (eqb-true _ _) (eqb-true _ _) (eqb-true _ _) (eqb-true _ _)
    (eqb-true _ _)

pub reading_itself : (r : Reading) → same_reading r r ≡ true
unfolding same_reading
reading_itself r =
    rw (
      mode_itself r.mode,
      eq-eqb r.value r.value refl,
      eq-eqb r.ais r.ais refl,
      eq-eqb r.bad r.bad refl,
      eq-eqb r.candidate r.candidate refl,
      eq-eqb r.news r.news refl,
      eq-eqb r.since r.since refl,
    ) refl

-- ---- a step that moved nothing kept all

pub unmoved : (i : Interpreter) (w : ℕ) → (after_step i w).moved ≡ false → after_word i.reading w ≡ i.reading
unfolding after_step
unmoved i w h = same_readings _ _ (not-false _ h)

pub kept_is_unmoved : (i : Interpreter) (w : ℕ) → after_word i.reading w ≡ i.reading → (after_step i w).moved ≡ false
unfolding after_step
kept_is_unmoved i w h = ap (λ r. not (same_reading r i.reading)) h ∙ ap not (reading_itself i.reading)

step_reading : (i : Interpreter) (w : ℕ) → (after_step i w).reading ≡ after_word i.reading w
unfolding after_step
step_reading i w = refl

pub interpreter_moves : (i : Interpreter) (w : ℕ) → ((after_step i w).moved ≡ false) ↔ ((after_step i w).reading ≡ i.reading)
interpreter_moves i w = (λ h. step_reading i w ∙ unmoved i w h, λ h. kept_is_unmoved i w (sym (step_reading i w) ∙ h))

-- ---- the states of two generators are equal where the test says so

pub same_states : (s n : Option ℕ) → same_sending s n ≡ true → s ≡ n
same_states None None h = refl
same_states None (Some n) h = cc
same_states (Some s) None h = cc
same_states (Some s) (Some n) h = ap Some (eqb-true s n h)

pub generator_moves : (g : Generator) (a : Action) (v : ℕ) → ((after_action g a v).moved ≡ false) ↔
    ((after_action g a v).sending ≡ g.sending)
unfolding after_action
generator_moves g a v = (
  λ h. same_states _ _ (not-false _ h),
  λ h. ap (λ s. not (same_sending s g.sending)) h ∙ ap not (state_itself g.sending),
)

-- ---- an interpreter that wasn't moved was where its word leads

pub unmoved_is_normal : (i : Interpreter) (w : ℕ) → is_normal w ≡ true → value_in w ≤ 782 → (after_step i w).moved ≡ false → IsPassed i w
unmoved_is_normal i w normal small h =
    let still = unmoved i w h in
    let there : i.reading ≡ nothing_counted mode.Norm (value_in w) 3 =
    sym (stays_for 7 w i.reading still) ∙ normal_word_settles i.reading w 7 normal small (omega arith) in
    record {
      kept = there;
      answer = same_action w (value_in w) normal refl i.reading (ap (λ (r : Reading). r.mode) there) (ap (λ (r : Reading). r.value) there);
      value = ap (λ (r : Reading). r.value) (step_reading i w ∙ still ∙ there);
    }

pub unmoved_is_ais : (i : Interpreter) → (after_step i 65535).moved ≡ false → action_on i.reading 65535 ≡ action.Ais
unmoved_is_ais i h =
    let still = unmoved i 65535 h in
    let there : i.reading ≡ nothing_counted mode.Ais i.reading.value 0 =
    sym (stays_for 3 65535 i.reading still) ∙ ais_settles i.reading 3 (omega arith) in
    action_by_event i.reading 65535 mode.Ais event.Ais (ap (λ (r : Reading). r.mode) there) (of_ones i.reading) ∙ ais_ais_action i.reading

-- ---- an interpreter that reads its own value

pub steady_is_normal : (i : Interpreter) (w : ℕ) → is_normal w ≡ true → i.reading.mode ≡ mode.Norm → i.reading.value ≡ value_in w
    → IsSteady i w
steady_is_normal i w normal norm at =
    let v = value_in w in
    let next : (after_step i w).reading ≡ nothing_counted mode.Norm v (later i.reading.since) =
    step_reading i w ∙ same w v normal refl i.reading norm at in
    let stays_at : (j : Interpreter) → j.reading ≡ nothing_counted mode.Norm v 3 → (after_step j w).moved ≡ false =
    λ j there. kept_is_unmoved j w (ap (λ r. after_word r w) there ∙ stays w v normal refl ∙ sym there) in
    record {
      answer = same_action w v normal refl i.reading norm at;
      next = next;
      still = stays_at i;
      then_still =
          λ late. (let full : later i.reading.since ≡ 3 = omega arith in stays_at (after_step i w) (next ∙ ap (nothing_counted mode.Norm v) full));
    }
