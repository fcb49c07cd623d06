-- An interpreter that reads one word for ever.
use Rattle.std.proofs.Common.{◌≡◌, ◌≢◌, ℕ, zero, suc, ◌+◌, ◌-◌, ◌<◌, ◌≤◌, true, false, eqb, leb, refl, ap, ◌∙◌, arith, inl, inr}
use Rattle.std.specs.Prelude.{◌||◌, not}
use Rattle.std.proofs.lemmas.Bool.{ne_eqb, eq-eqb, le-leb, lt-leb, cases_Bool, cases_eq, cases_lt}
use Rattle.sdh_pointer.specs.declared.reading.Reading.{Reading}
use Rattle.sdh_pointer.specs.declared.reading.Mode.{Mode}
use Rattle.sdh_pointer.specs.declared.reading.Mode.TheVariants as mode
use Rattle.sdh_pointer.specs.declared.reading.Event.{Event}
use Rattle.sdh_pointer.specs.declared.reading.Event.TheVariants as event
use Rattle.sdh_pointer.specs.declared.reading.Action.TheVariants as action
use Rattle.sdh_pointer.specs.Words.{is_normal, is_enabled, value_in, one_up, one_down}
use Rattle.sdh_pointer.specs.Reading.{normal_event, event_of, is_norm, goes_up, goes_down, after_in, action_in, after_event, after_word}
use Rattle.sdh_pointer.specs.Reading.{action_on, action_on_event, nothing_counted, with_new, with_ais, news_with, later}
use Rattle.sdh_pointer.specs.Repeated.{after_rounds}
use Rattle.sdh_pointer.specs.Laws.{enabled_end}
use Rattle.sdh_pointer.proofs.Forms.{of_normal_word, of_enabled_word, of_ones, same_event, new_outside, new_early, new_neither, up_event}
use Rattle.sdh_pointer.proofs.Forms.{down_event}
use Rattle.sdh_pointer.proofs.Rows.{norm_same, norm_ndf, norm_up, norm_down, norm_new, norm_ais, ais_ais, ais_ndf, ais_new, lop_ais}
use Rattle.sdh_pointer.proofs.Rows.{lop_ndf, lop_new, norm_same_action}

-- a step by the event of the word
pub by_event : (r : Reading) (w : ℕ) (m : Mode) (e : Event) → r.mode ≡ m → event_of r w ≡ e → after_word r w ≡ after_in m e r
unfolding after_word after_event
by_event r w m e norm is = ap (λ x. after_in r.mode x r) is ∙ ap (λ x. after_in x e r) norm

pub action_by_event : (r : Reading) (w : ℕ) (m : Mode) (e : Event) → r.mode ≡ m → event_of r w ≡ e → action_on r w ≡ action_in m e r
unfolding action_on action_on_event
action_by_event r w m e norm is = ap (λ x. action_in r.mode x r) is ∙ ap (λ x. action_in x e r) norm

-- a state that a word keeps is kept for ever
pub stays_for : (k w : ℕ) (r : Reading) → after_word r w ≡ r → after_rounds k w r ≡ r
stays_for zero w r h = refl
stays_for (suc k) w r h = ap (after_rounds k w) h ∙ stays_for k w r h

-- rounds in two parts
pub in_parts : (n k w : ℕ) (r : Reading) → after_rounds (n + k) w r ≡ after_rounds k w (after_rounds n w r)
in_parts zero k w r = let at : 0 + k ≡ k = omega arith in ap (λ m. after_rounds m w r) at
in_parts (suc n) k w r =
    let at : suc n + k ≡ suc (n + k) = omega arith in
    ap (λ m. after_rounds m w r) at ∙ in_parts n k w (after_word r w)

-- a state that is reached in n rounds and kept is there in every later round
pub from_then : (n k w : ℕ) (r s : Reading) → n ≤ k → after_rounds n w r ≡ s → after_word s w ≡ s → after_rounds k w r ≡ s
from_then n k w r s h there kept =
    let at : k ≡ n + (k - n) = omega arith in
    ap (λ m. after_rounds m w r) at ∙ in_parts n (k - n) w r ∙ ap (after_rounds (k - n) w) there ∙ stays_for (k - n) w s kept

-- one more of the counted candidate
pub news_more : (v : ℕ) (r : Reading) → r.candidate ≡ v → 0 < r.news → news_with r v ≡ r.news + 1
news_more v r is some =
    let counted : eqb 0 r.news ≡ false = ne_eqb _ _ (λ e. omega arith) in
    let e : eqb r.candidate v ≡ true = eq-eqb _ _ is in
    rw (counted, e) refl

pub some_news : (v : ℕ) (r : Reading) → 0 < news_with r v
some_news v r = elim (cases_Bool (eqb 0 r.news || not (eqb r.candidate v))) [ inl t ↦ rw t (omega arith) | inr f ↦ rw f (omega arith) ]

-- ---- one normal word for ever

module _ (w v : ℕ) (normal : is_normal w ≡ true) (carries : value_in w ≡ v) where
  pub reads : (m : Mode) (r : Reading) (e : Event) → r.mode ≡ m → normal_event r v ≡ e → after_word r w ≡ after_in m e r
  reads m r e norm is = by_event r w m e norm (of_normal_word r w normal ∙ ap (normal_event r) carries ∙ is)

  -- a value that is v
  pub same : (r : Reading) → r.mode ≡ mode.Norm → r.value ≡ v → after_word r w ≡ nothing_counted mode.Norm v (later r.since)
  same r norm at =
      reads mode.Norm r event.Same norm (same_event r v norm at) ∙ norm_same r ∙ ap (λ x. nothing_counted mode.Norm x (later r.since)) at

  pub same_action : (r : Reading) → r.mode ≡ mode.Norm → r.value ≡ v → action_on r w ≡ action.Normal
  same_action r norm at =
      action_by_event r w mode.Norm event.Same norm (of_normal_word r w normal ∙ ap (normal_event r) carries ∙ same_event r v norm at)
      ∙ norm_same_action r

  pub stays : after_word (nothing_counted mode.Norm v 3) w ≡ nothing_counted mode.Norm v 3
  stays = same (nothing_counted mode.Norm v 3) refl refl

  module _ (small : v ≤ 782) where
    -- within k rounds all is settled at v
    abbrev Within : ℕ → Reading → Type 0
    Within k r = after_rounds k w r ≡ nothing_counted mode.Norm v 3

    -- one round
    step : (k : ℕ) (r s : Reading) → after_word r w ≡ s → Within k s → Within (suc k) r
    step k r s e h = ap (after_rounds k w) e ∙ h

    longer : (n k : ℕ) (r : Reading) → n ≤ k → Within n r → Within k r
    longer n k r h there = from_then n k w r (nothing_counted mode.Norm v 3) h there stays

    -- at v all is settled within three rounds
    at_value : (r : Reading) → r.mode ≡ mode.Norm → r.value ≡ v → Within 3 r
    at_value r norm at =
        let one = nothing_counted mode.Norm v (later r.since) in
        let two = nothing_counted mode.Norm v (later (later r.since)) in
        let full : later (later (later r.since)) ≡ 3 = omega arith in
        step 2 r one (same r norm at)
        (step 1 one two (same one refl refl)
        (step 0 two (nothing_counted mode.Norm v 3) (same two refl refl ∙ ap (nothing_counted mode.Norm v) full) refl))

    -- a new value outside mode Norm
    out_third : (m : Mode) (r : Reading) → r.mode ≡ m → is_norm m ≡ false → 3 ≤ news_with r v → after_word r w ≡ nothing_counted mode.Norm v 0
    out_third mode.Norm r is out third = absurd (cc)
    out_third mode.Ais r is out third =
        reads mode.Ais r (event.New v) is (new_outside r v (ap is_norm is) small) ∙ ais_new r v ∙ (let e = le-leb _ _ third in rw e refl)
    out_third mode.Lop r is out third =
        reads mode.Lop r (event.New v) is (new_outside r v (ap is_norm is) small) ∙ lop_new r v ∙ (let e = le-leb _ _ third in rw e refl)

    pub out_counted : (m : Mode) (r : Reading) → r.mode ≡ m → is_norm m ≡ false → news_with r v < 3 → after_word r w ≡ with_new r v 0
    out_counted mode.Norm r is out less = absurd (cc)
    out_counted mode.Ais r is out less =
        reads mode.Ais r (event.New v) is (new_outside r v (ap is_norm is) small) ∙ ais_new r v ∙ (let e = lt-leb _ _ less in rw e refl)
    out_counted mode.Lop r is out less =
        reads mode.Lop r (event.New v) is (new_outside r v (ap is_norm is) small) ∙ lop_new r v ∙ (let e = lt-leb _ _ less in rw e refl)

    out_two : (m : Mode) (r : Reading) → r.mode ≡ m → is_norm m ≡ false → r.candidate ≡ v → 2 ≤ r.news → Within 4 r
    out_two m r is out at two =
        step 3 r (nothing_counted mode.Norm v 0) (out_third m r is out (let more = news_more v r at (omega arith) in omega arith))
        (at_value (nothing_counted mode.Norm v 0) refl refl)

    out_one : (m : Mode) (r : Reading) → r.mode ≡ m → is_norm m ≡ false → r.candidate ≡ v → r.news ≡ 1 → Within 5 r
    out_one m r is out at one =
        let more = news_more v r at (omega arith) in
        step 4 r (with_new r v 0) (out_counted m r is out (omega arith)) (out_two m (with_new r v 0) is out refl (omega arith))

    outside : (m : Mode) (r : Reading) → r.mode ≡ m → is_norm m ≡ false → Within 6 r
    outside m r is out =
        elim (cases_lt (news_with r v) 3) [
          | inr third ↦ longer 4 6 r (omega arith) (step 3 r (nothing_counted mode.Norm v 0) (out_third m r is out third)
              (at_value (nothing_counted mode.Norm v 0) refl refl))
          | inl less ↦ (let next = out_counted m r is out less in
              elim (cases_lt (news_with r v) 2) [
                | inr two ↦ longer 5 6 r (omega arith) (step 4 r (with_new r v 0) next (out_two m (with_new r v 0) is out refl two))
                | inl other ↦ step 5 r (with_new r v 0) next
                    (out_one m (with_new r v 0) is out refl (let some = some_news v r in omega arith))
              ])
        ]

    -- a new value in mode Norm
    in_third : (r : Reading) → r.mode ≡ mode.Norm → normal_event r v ≡ event.New v → 3 ≤ news_with r v
        → after_word r w ≡ nothing_counted mode.Norm v (later r.since)
    in_third r is new third = reads mode.Norm r (event.New v) is new ∙ norm_new r v ∙ (let e = le-leb _ _ third in rw e refl)

    pub in_counted : (r : Reading) → r.mode ≡ mode.Norm → normal_event r v ≡ event.New v → news_with r v < 3
        → after_word r w ≡ with_new r v (later r.since)
    in_counted r is new less = reads mode.Norm r (event.New v) is new ∙ norm_new r v ∙ (let e = lt-leb _ _ less in rw e refl)

    module _ (u : ℕ) (other : u ≢ v) where
      abbrev counted : ℕ → ℕ → Reading
      counted n s = record { mode = mode.Norm; value = u; ais = 0; bad = 0; candidate = v; news = n; since = s }

      -- another value that was just taken; nothing else is known of it
      fresh : Within 3 (nothing_counted mode.Norm u 0)
      fresh =
          step 2 (nothing_counted mode.Norm u 0) (counted 1 1) (in_counted (nothing_counted mode.Norm u 0) refl
          (new_early (nothing_counted mode.Norm u 0) v refl other (omega arith) small) (omega arith))
          (step 1 (counted 1 1) (counted 2 2) (in_counted (counted 1 1) refl (new_early (counted 1 1) v refl other (omega arith) small)
          (omega (arith, news_more v (counted 1 1) refl (omega arith)))
          ∙ ap (λ n. counted n 2) (news_more v (counted 1 1) refl (omega arith)))
          (step 0 (counted 2 2) (nothing_counted mode.Norm v 3) (in_third (counted 2 2) refl
          (new_early (counted 2 2) v refl other (omega arith) small) (omega (arith, news_more v (counted 2 2) refl (omega arith)))) refl))

    -- any value that was just taken
    taken : (u : ℕ) → Within 3 (nothing_counted mode.Norm u 0)
    taken u = elim (cases_eq u v) [ inl e ↦ at_value (nothing_counted mode.Norm u 0) refl e | inr other ↦ fresh u other ]

    -- since 3, and the word justifies nothing
    late_new : (r : Reading) → r.mode ≡ mode.Norm → r.value ≢ v → goes_up v r.value ≡ false → goes_down v r.value ≡ false
        → normal_event r v ≡ event.New v
    late_new r norm other up down = new_neither r v norm other up down small

    late_two : (r : Reading) → r.mode ≡ mode.Norm → r.value ≢ v → 3 ≤ r.since → goes_up v r.value ≡ false → goes_down v r.value ≡ false
        → r.candidate ≡ v → 2 ≤ r.news → Within 1 r
    late_two r norm other full up down at two =
        let end : later r.since ≡ 3 = omega arith in
        in_third r norm (late_new r norm other up down) (let more = news_more v r at (omega arith) in omega arith)
        ∙ ap (nothing_counted mode.Norm v) end

    late_one : (r : Reading) → r.mode ≡ mode.Norm → r.value ≢ v → 3 ≤ r.since → goes_up v r.value ≡ false → goes_down v r.value ≡ false
        → r.candidate ≡ v → r.news ≡ 1 → Within 2 r
    late_one r norm other full up down at one =
        let more = news_more v r at (omega arith) in
        step 1 r (with_new r v (later r.since)) (in_counted r norm (late_new r norm other up down) (omega arith))
        (late_two (with_new r v (later r.since)) norm other (omega arith) up down refl (omega arith))

    late : (r : Reading) → r.mode ≡ mode.Norm → r.value ≢ v → 3 ≤ r.since → goes_up v r.value ≡ false → goes_down v r.value ≡ false
        → Within 3 r
    late r norm other full up down =
        let new = late_new r norm other up down in
        let end : later r.since ≡ 3 = omega arith in let end_le : 3 ≤ later r.since = omega arith in
        elim (cases_lt (news_with r v) 3) [
          | inr third ↦ longer 1 3 r (omega arith) (in_third r norm new third ∙ ap (nothing_counted mode.Norm v) end)
          | inl less ↦ (let next = in_counted r norm new less in
              elim (cases_lt (news_with r v) 2) [
                | inr two ↦ longer 2 3 r (omega arith) (step 1 r (with_new r v (later r.since)) next
                    (late_two (with_new r v (later r.since)) norm other end_le up down refl two))
                | inl two ↦ step 2 r (with_new r v (later r.since)) next
                    (late_one (with_new r v (later r.since)) norm other end_le up down refl (let some = some_news v r in omega arith))
              ])
        ]

    after_up : (r : Reading) → r.mode ≡ mode.Norm → normal_event r v ≡ event.Up → Within 4 r
    after_up r norm is =
        step 3 r (nothing_counted mode.Norm (one_up r.value) 0) (reads mode.Norm r event.Up norm is ∙ norm_up r) (taken (one_up r.value))

    after_down : (r : Reading) → r.mode ≡ mode.Norm → normal_event r v ≡ event.Down → Within 4 r
    after_down r norm is =
        step 3 r (nothing_counted mode.Norm (one_down r.value) 0) (reads mode.Norm r event.Down norm is ∙ norm_down r) (taken (one_down r.value))

    since_three : (r : Reading) → r.mode ≡ mode.Norm → r.value ≢ v → 3 ≤ r.since → Within 4 r
    since_three r norm other full =
        elim (cases_Bool (goes_up v r.value)) [
          | inl up ↦ after_up r norm (up_event r v norm other full up)
          | inr up ↦ elim (cases_Bool (goes_down v r.value)) [
            | inl down ↦ after_down r norm (down_event r v norm other full up down)
            | inr down ↦ longer 3 4 r (omega arith) (late r norm other full up down)
          ]
        ]

    -- a round before since is 3
    before : (k : ℕ) (r : Reading) → 3 ≤ k → r.mode ≡ mode.Norm → r.value ≢ v → r.since < 3
        → ((s : Reading) → s.mode ≡ mode.Norm → s.value ≢ v → s.since ≡ later r.since → Within k s) → Within (suc k) r
    before k r long norm other early next =
        let new = new_early r v norm other early small in
        elim (cases_lt (news_with r v) 3) [
          | inr third ↦ step k r (nothing_counted mode.Norm v (later r.since)) (in_third r norm new third)
              (longer 3 k (nothing_counted mode.Norm v (later r.since)) long (at_value (nothing_counted mode.Norm v (later r.since)) refl refl))
          | inl less ↦ step k r (with_new r v (later r.since)) (in_counted r norm new less)
              (next (with_new r v (later r.since)) norm other refl)
        ]

    since_two : (r : Reading) → r.mode ≡ mode.Norm → r.value ≢ v → r.since ≡ 2 → Within 5 r
    since_two r norm other is = before 4 r (omega arith) norm other (omega arith) (λ s a b c. since_three s a b (omega arith))

    since_one : (r : Reading) → r.mode ≡ mode.Norm → r.value ≢ v → r.since ≡ 1 → Within 6 r
    since_one r norm other is = before 5 r (omega arith) norm other (omega arith) (λ s a b c. since_two s a b (omega arith))

    since_none : (r : Reading) → r.mode ≡ mode.Norm → r.value ≢ v → r.since ≡ 0 → Within 7 r
    since_none r norm other is = before 6 r (omega arith) norm other (omega arith) (λ s a b c. since_one s a b (omega arith))

    other_value : (r : Reading) → r.mode ≡ mode.Norm → r.value ≢ v → Within 7 r
    other_value r norm other =
        elim (cases_lt r.since 3) [
          | inr e ↦ longer 4 7 r (omega arith) (since_three r norm other e)
          | inl no3 ↦ elim (cases_eq r.since 2) [
            | inl e ↦ longer 5 7 r (omega arith) (since_two r norm other e)
            | inr no2 ↦ elim (cases_eq r.since 1) [
              | inl e ↦ longer 6 7 r (omega arith) (since_one r norm other e)
              | inr no1 ↦ since_none r norm other (omega arith)
            ]
          ]
        ]

    by_mode : (m : Mode) (r : Reading) → r.mode ≡ m → Within 7 r
    by_mode mode.Ais r is = longer 6 7 r (omega arith) (outside mode.Ais r is refl)
    by_mode mode.Lop r is = longer 6 7 r (omega arith) (outside mode.Lop r is refl)
    by_mode mode.Norm r is =
        elim (cases_eq r.value v) [
          | inl at ↦ longer 3 7 r (omega arith) (at_value r is at)
          | inr other ↦ other_value r is other
        ]

    -- whatever is kept, seven rounds are enough
    pub settles : (r : Reading) (k : ℕ) → 7 ≤ k → after_rounds k w r ≡ nothing_counted mode.Norm v 3
    settles r k h = longer 7 k r h (by_mode r.mode r refl)

pub normal_word_settles : (r : Reading) (w k : ℕ) → is_normal w ≡ true → value_in w ≤ 782 → 7 ≤ k
    → after_rounds k w r ≡ nothing_counted mode.Norm (value_in w) 3
normal_word_settles r w k normal small h = settles w (value_in w) normal refl small r k h

-- ---- one enabled word for ever

module _ (w : ℕ) (enabled : is_enabled w ≡ true) (small : value_in w ≤ 782) where
  reads_ndf : (m : Mode) (r : Reading) → r.mode ≡ m → after_word r w ≡ after_in m (event.Ndf (value_in w)) r
  reads_ndf m r is = by_event r w m (event.Ndf (value_in w)) is (of_enabled_word r w enabled small)

  once : (m : Mode) (r : Reading) → r.mode ≡ m → after_word r w ≡ enabled_end m r.value (value_in w)
  once mode.Norm r is = reads_ndf mode.Norm r is ∙ norm_ndf r (value_in w)
  once mode.Ais r is = reads_ndf mode.Ais r is ∙ ais_ndf r (value_in w)
  once mode.Lop r is = reads_ndf mode.Lop r is ∙ lop_ndf r (value_in w)

  ends : (m : Mode) (x : ℕ) → after_word (enabled_end m x (value_in w)) w ≡ enabled_end m x (value_in w)
  ends mode.Norm x = once mode.Norm (enabled_end mode.Norm x (value_in w)) refl
  ends mode.Ais x = once mode.Norm (enabled_end mode.Ais x (value_in w)) refl
  ends mode.Lop x = once mode.Lop (enabled_end mode.Lop x (value_in w)) refl

pub enabled_word_settles : (r : Reading) (w k : ℕ) → is_enabled w ≡ true → value_in w ≤ 782 → 1 ≤ k
    → after_rounds k w r ≡ enabled_end r.mode r.value (value_in w)
enabled_word_settles r w k enabled small h =
    from_then 1 k w r (enabled_end r.mode r.value (value_in w)) h (once w enabled small r.mode r refl) (ends w enabled small r.mode r.value)

-- ---- all ones for ever

reads_ones : (m : Mode) (r : Reading) → r.mode ≡ m → after_word r 65535 ≡ after_in m event.Ais r
reads_ones m r is = by_event r 65535 m event.Ais is (of_ones r)

pub ais_stays : (x : ℕ) → after_word (nothing_counted mode.Ais x 0) 65535 ≡ nothing_counted mode.Ais x 0
ais_stays x = reads_ones mode.Ais (nothing_counted mode.Ais x 0) refl ∙ ais_ais (nothing_counted mode.Ais x 0)

-- outside mode Ais the third AIS word in a row leads to it
ais_third : (m : Mode) (r : Reading) → r.mode ≡ m → m ≢ mode.Ais → 2 ≤ r.ais → after_word r 65535 ≡ nothing_counted mode.Ais r.value 0
ais_third mode.Norm r is other two =
    reads_ones mode.Norm r is ∙ norm_ais r ∙ (let e : leb 3 (r.ais + 1) ≡ true = le-leb _ _ (omega arith) in rw e refl)
ais_third mode.Lop r is other two =
    reads_ones mode.Lop r is ∙ lop_ais r ∙ (let e : leb 3 (r.ais + 1) ≡ true = le-leb _ _ (omega arith) in rw e refl)
ais_third mode.Ais r is other two = absurd (other refl)

ais_counted : (m : Mode) (r : Reading) → r.mode ≡ m → m ≢ mode.Ais → r.ais < 2 → (s : ℕ) × (after_word r 65535 ≡ with_ais r s)
ais_counted mode.Norm r is other less =
    (later r.since, reads_ones mode.Norm r is ∙ norm_ais r ∙ (let e : leb 3 (r.ais + 1) ≡ false = lt-leb _ _ (omega arith) in rw e refl))
ais_counted mode.Lop r is other less =
    (0, reads_ones mode.Lop r is ∙ lop_ais r ∙ (let e : leb 3 (r.ais + 1) ≡ false = lt-leb _ _ (omega arith) in rw e refl))
ais_counted mode.Ais r is other less = absurd (other refl)

abbrev IsAisIn : ℕ → Reading → Type 0
IsAisIn k r = after_rounds k 65535 r ≡ nothing_counted mode.Ais r.value 0

ais_longer : (n k : ℕ) (r : Reading) → n ≤ k → IsAisIn n r → IsAisIn k r
ais_longer n k r h there = from_then n k 65535 r (nothing_counted mode.Ais r.value 0) h there (ais_stays r.value)

counted_then : (k : ℕ) (m : Mode) (r : Reading) → r.mode ≡ m → m ≢ mode.Ais → r.ais < 2 → ((s : ℕ) → IsAisIn k (with_ais r s))
    → IsAisIn (suc k) r
counted_then k m r is other less next = let p = ais_counted m r is other less in ap (after_rounds k 65535) p.1 ∙ next p.0

out_of_ais : (m : Mode) (r : Reading) → r.mode ≡ m → m ≢ mode.Ais → IsAisIn 3 r
out_of_ais m r is other =
    elim (cases_lt r.ais 2) [
      | inr two ↦ ais_longer 1 3 r (omega arith) (ais_third m r is other two)
      | inl less ↦ elim (cases_lt r.ais 1) [
        | inr one ↦ ais_longer 2 3 r (omega arith) (counted_then 1 m r is other less
            (λ s. ais_third m (with_ais r s) is other (omega arith)))
        | inl none ↦ counted_then 2 m r is other less (λ s. counted_then 1 m (with_ais r s) is other (omega arith)
            (λ t. ais_third m (with_ais (with_ais r s) t) is other (omega arith)))
      ]
    ]

by_ais : (m : Mode) (r : Reading) → r.mode ≡ m → IsAisIn 3 r
by_ais mode.Norm r is = out_of_ais mode.Norm r is (λ e. cc)
by_ais mode.Lop r is = out_of_ais mode.Lop r is (λ e. cc)
by_ais mode.Ais r is = ais_longer 1 3 r (omega arith) (reads_ones mode.Ais r is ∙ ais_ais r)

pub ais_settles : (r : Reading) (k : ℕ) → 3 ≤ k → after_rounds k 65535 r ≡ nothing_counted mode.Ais r.value 0
ais_settles r k h = ais_longer 3 k r h (by_ais r.mode r refl)
