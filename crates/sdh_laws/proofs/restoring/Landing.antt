-- How an interpreter comes to Norm at the value of a normal word that it reads again and again, whatever it kept: it is
-- there within three rounds, or a round with the action New leads there within six.
use Rattle.std.proofs.Common.{◌≡◌, ◌≢◌, ℕ, zero, suc, ◌+◌, ◌-◌, ◌<◌, ◌≤◌, true, false, refl, ap, sym, ◌∙◌, subst, arith, inl, inr, ◌⊎◌}
use Rattle.std.specs.Prelude.{not, nat_le, if◌then◌else◌}
use Rattle.std.proofs.lemmas.Bool.{le-leb, cases_Bool, cases_eq, cases_lt}
use Rattle.sdh_pointer.specs.declared.reading.Reading.{Reading}
use Rattle.sdh_pointer.specs.declared.reading.Mode.{Mode}
use Rattle.sdh_pointer.specs.declared.reading.Mode.TheVariants as mode
use Rattle.sdh_pointer.specs.declared.reading.Event.{Event}
use Rattle.sdh_pointer.specs.declared.reading.Event.TheVariants as event
use Rattle.sdh_pointer.specs.declared.reading.Action.TheVariants as action
use Rattle.sdh_pointer.specs.Words.{is_normal, is_enabled, value_in, one_up, one_down}
use Rattle.sdh_pointer.specs.Reading.{normal_event, is_norm, goes_up, goes_down, action_in, after_word, action_on, nothing_counted}
use Rattle.sdh_pointer.specs.Reading.{with_new, news_with, later, reading_row_of, reading_table}
use Rattle.sdh_pointer.specs.Repeated.{after_rounds}
use Rattle.sdh_pointer.specs.Laws.{is_ais_action}
use Rattle.sdh_pointer.proofs.Bounds.{answer_tells_mode}
use Rattle.sdh_pointer.proofs.Forms.{of_normal_word, of_enabled_word, new_outside, new_early, new_neither, up_event, down_event}
use Rattle.sdh_pointer.proofs.Rows.{norm_up, norm_down, norm_new, norm_ndf, ais_new, ais_ndf, lop_new, lop_ndf, norm_ndf_action}
use Rattle.sdh_pointer.proofs.Rows.{ais_ndf_action}
use Rattle.sdh_pointer.proofs.Settling.{by_event, action_by_event, in_parts, same, same_action, reads, news_more, some_news, out_counted, in_counted}

-- ---- the actions of new values

norm_new_action : (r : Reading) (v : ℕ) → action_in mode.Norm (event.New v) r
    ≡ (if nat_le 3 (news_with r v) then action.New else action.Normal)
unfolding action_in reading_row_of reading_table
norm_new_action r v = refl

pub ais_new_action : (r : Reading) (v : ℕ) → action_in mode.Ais (event.New v) r ≡ (if nat_le 3 (news_with r v) then action.New else action.Ais)
unfolding action_in reading_row_of reading_table
ais_new_action r v = refl

lop_new_action : (r : Reading) (v : ℕ) → action_in mode.Lop (event.New v) r ≡ (if nat_le 3 (news_with r v) then action.New else action.Ais)
unfolding action_in reading_row_of reading_table
lop_new_action r v = refl

-- ---- one enabled word

-- out of Lop an enabled word is taken at once
pub enabled_taken : (r : Reading) (w : ℕ) → is_enabled w ≡ true → value_in w ≤ 782 → r.mode ≢ mode.Lop
    → (after_word r w ≡ nothing_counted mode.Norm (value_in w) 0) × (action_on r w ≡ action.New)
enabled_taken r w enabled small other = by r.mode refl
  where
    by : (m : Mode) → r.mode ≡ m → (after_word r w ≡ nothing_counted mode.Norm (value_in w) 0) × (action_on r w ≡ action.New)
    by mode.Norm is = (
      by_event r w mode.Norm (event.Ndf (value_in w)) is (of_enabled_word r w enabled small)
          ∙ norm_ndf r (value_in w),
      action_by_event r w mode.Norm (event.Ndf (value_in w)) is (of_enabled_word r w enabled small)
          ∙ norm_ndf_action r (value_in w),
    )
    by mode.Ais is = (
      by_event r w mode.Ais (event.Ndf (value_in w)) is (of_enabled_word r w enabled small)
          ∙ ais_ndf r (value_in w),
      action_by_event r w mode.Ais (event.Ndf (value_in w)) is (of_enabled_word r w enabled small)
          ∙ ais_ndf_action r (value_in w),
    )
    by mode.Lop is = absurd (other is)

-- in Lop an enabled word isn't taken: the mode stays
pub enabled_left : (r : Reading) (w : ℕ) → is_enabled w ≡ true → value_in w ≤ 782 → r.mode ≡ mode.Lop
    → after_word r w ≡ nothing_counted mode.Lop r.value 0
enabled_left r w enabled small is =
    by_event r w mode.Lop (event.Ndf (value_in w)) is (of_enabled_word r w enabled small) ∙ lop_ndf r (value_in w)

-- ---- one normal word for ever

module _ (w v : ℕ) (normal : is_normal w ≡ true) (carries : value_in w ≡ v) where
  -- the interpreter is in Norm at the value of the word
  abbrev pub IsAt : Reading → Type 0
  IsAt r = (r.mode ≡ mode.Norm) × (r.value ≡ v)

  pub keeps : (r : Reading) → IsAt r → IsAt (after_word r w)
  keeps r at = let e = same w v normal carries r at.0 at.1 in (ap (λ (x : Reading). x.mode) e, ap (λ (x : Reading). x.value) e)

  keeps_for : (k : ℕ) (r : Reading) → IsAt r → IsAt (after_rounds k w r)
  keeps_for zero r at = at
  keeps_for (suc k) r at = keeps_for k (after_word r w) (keeps r at)

  -- in Norm at the value of the word the action is Normal
  pub answers_there : (r : Reading) → IsAt r → action_on r w ≡ action.Normal
  answers_there r at = same_action w v normal carries r at.0 at.1

  pub answered : (r : Reading) → IsAt (after_word r w) → is_ais_action (action_on r w) ≡ false
  answered r at = answer_tells_mode r w ∙ ap (λ m. not (is_norm m)) at.0

  pub acts : (m : Mode) (r : Reading) (e : Event) → r.mode ≡ m → normal_event r v ≡ e → action_on r w ≡ action_in m e r
  acts m r e norm is = action_by_event r w m e norm (of_normal_word r w normal ∙ ap (normal_event r) carries ∙ is)

  -- after fewer than `most` rounds comes one with the action New, which leads to Norm at the value of the word
  pub record ByNew (most : ℕ) (r : Reading) : Type 0 where
    pub before : ℕ
    pub few : before < most
    pub new : action_on (after_rounds before w r) w ≡ action.New
    pub at : IsAt (after_word (after_rounds before w r) w)

  abbrev pub Lands : ℕ → ℕ → Reading → Type 0
  Lands a b r = IsAt (after_rounds a w r) ⊎ ByNew b r

  -- if a round leads from r to s, what holds of s with b rounds holds of r with b + 1
  step_new : (b : ℕ) (r s : Reading) → after_word r w ≡ s → ByNew b s → ByNew (suc b) r
  step_new b r s e n = by (subst (ByNew b) (sym e) n)
    where
      by : ByNew b (after_word r w) → ByNew (suc b) r
      by n = record { before = suc n.before; few = (let f = n.few in omega arith); new = n.new; at = n.at }

  wider : (b y : ℕ) (r : Reading) → b ≤ y → ByNew b r → ByNew y r
  wider b y r g n = record { before = n.before; few = (let f = n.few in omega arith); new = n.new; at = n.at }

  step : (a b : ℕ) (r s : Reading) → after_word r w ≡ s → Lands a b s → Lands (suc a) (suc b) r
  step a b r s e (inl at) = inl (subst (λ x. IsAt (after_rounds a w x)) (sym e) at)
  step a b r s e (inr n) = inr (step_new b r s e n)

  stays_at : (n k : ℕ) (r : Reading) → n ≤ k → IsAt (after_rounds n w r) → IsAt (after_rounds k w r)
  stays_at n k r h there =
      let at : n + (k - n) ≡ k = omega arith in
      subst (λ m. IsAt (after_rounds m w r)) at (subst IsAt (sym (in_parts n (k - n) w r)) (keeps_for (k - n) (after_rounds n w r) there))

  longer : (a b x y : ℕ) (r : Reading) → a ≤ x → b ≤ y → Lands a b r → Lands x y r
  longer a b x y r h g (inl at) = inl (stays_at a x r h at)
  longer a b x y r h g (inr n) = inr (wider b y r g n)

  now_new : (r : Reading) (since : ℕ) → after_word r w ≡ nothing_counted mode.Norm v since → action_on r w ≡ action.New → ByNew 1 r
  now_new r since e new = record {
    before = 0;
    few = omega arith;
    new = new;
    at = (ap (λ (x : Reading). x.mode) e, ap (λ (x : Reading). x.value) e);
  }

  module _ (small : v ≤ 782) where
    -- out of Norm
    out_third : (m : Mode) (r : Reading) → r.mode ≡ m → is_norm m ≡ false → 3 ≤ news_with r v → ByNew 1 r
    out_third mode.Norm r is out third = absurd (cc)
    out_third mode.Ais r is out third =
        let new = new_outside r v (ap is_norm is) small in
        now_new r 0 (reads w v normal carries mode.Ais r (event.New v) is new ∙ ais_new r v ∙ (let e = le-leb _ _ third in rw e refl))
        (acts mode.Ais r (event.New v) is new ∙ ais_new_action r v ∙ (let e = le-leb _ _ third in rw e refl))
    out_third mode.Lop r is out third =
        let new = new_outside r v (ap is_norm is) small in
        now_new r 0 (reads w v normal carries mode.Lop r (event.New v) is new ∙ lop_new r v ∙ (let e = le-leb _ _ third in rw e refl))
        (acts mode.Lop r (event.New v) is new ∙ lop_new_action r v ∙ (let e = le-leb _ _ third in rw e refl))

    out_two : (m : Mode) (r : Reading) → r.mode ≡ m → is_norm m ≡ false → r.candidate ≡ v → 2 ≤ r.news → ByNew 1 r
    out_two m r is out at two = out_third m r is out (let more = news_more v r at (omega arith) in omega arith)

    out_one : (m : Mode) (r : Reading) → r.mode ≡ m → is_norm m ≡ false → r.candidate ≡ v → r.news ≡ 1 → ByNew 2 r
    out_one m r is out at one =
        let more = news_more v r at (omega arith) in
        step_new 1 r (with_new r v 0) (out_counted w v normal carries small m r is out (omega arith)) (out_two m (with_new r v 0) is out refl (omega arith))

    pub outside : (m : Mode) (r : Reading) → r.mode ≡ m → is_norm m ≡ false → ByNew 3 r
    outside m r is out =
        elim (cases_lt (news_with r v) 3) [
          | inr third ↦ wider 1 3 r (omega arith) (out_third m r is out third)
          | inl less ↦ (let next = out_counted w v normal carries small m r is out less in
              elim (cases_lt (news_with r v) 2) [
                | inr two ↦ wider 2 3 r (omega arith) (step_new 1 r (with_new r v 0) next (out_two m (with_new r v 0) is out refl two))
                | inl other ↦ step_new 2 r (with_new r v 0) next
                    (out_one m (with_new r v 0) is out refl (let some = some_news v r in omega arith))
              ])
        ]

    -- in Norm: a new value
    in_third : (r : Reading) → r.mode ≡ mode.Norm → normal_event r v ≡ event.New v → 3 ≤ news_with r v → ByNew 1 r
    in_third r is new third =
        now_new r (later r.since) (reads w v normal carries mode.Norm r (event.New v) is new ∙ norm_new r v ∙ (let e = le-leb _ _ third in rw e refl))
        (acts mode.Norm r (event.New v) is new ∙ norm_new_action r v ∙ (let e = le-leb _ _ third in rw e refl))

    -- a round that counts a new value; nothing else is known of it
    before_new : (b : ℕ) (r : Reading) → r.mode ≡ mode.Norm → r.value ≢ v → r.since < 3
        → ((s : Reading) → s.mode ≡ mode.Norm → s.value ≢ v → s.since ≡ later r.since → s.candidate ≡ v → s.news ≡ news_with r v
        → ByNew b s) → ByNew (suc b) r
    before_new b r norm other early next =
        let new = new_early r v norm other early small in
        elim (cases_lt (news_with r v) 3) [
          | inr third ↦ wider 1 (suc b) r (omega arith) (in_third r norm new third)
          | inl less ↦ step_new b r (with_new r v (later r.since)) (in_counted w v normal carries small r norm new less)
              (next (with_new r v (later r.since)) norm other refl refl refl)
        ]

    before : (a b : ℕ) (r : Reading) → r.mode ≡ mode.Norm → r.value ≢ v → r.since < 3
        → ((s : Reading) → s.mode ≡ mode.Norm → s.value ≢ v → s.since ≡ later r.since → Lands a b s) → Lands (suc a) (suc b) r
    before a b r norm other early next =
        let new = new_early r v norm other early small in
        elim (cases_lt (news_with r v) 3) [
          | inr third ↦ inr (wider 1 (suc b) r (omega arith) (in_third r norm new third))
          | inl less ↦ step a b r (with_new r v (later r.since)) (in_counted w v normal carries small r norm new less)
              (next (with_new r v (later r.since)) norm other refl)
        ]

    none_then : (r : Reading) → r.mode ≡ mode.Norm → r.value ≢ v → r.since < 3 → r.candidate ≡ v → 2 ≤ r.news → ByNew 1 r
    none_then r norm other early at two =
        let more = news_more v r at (omega arith) in
        in_third r norm (new_early r v norm other early small) (omega arith)

    -- three rounds are enough for an interpreter whose `since` is 0
    since_none : (r : Reading) → r.mode ≡ mode.Norm → r.value ≢ v → r.since ≡ 0 → ByNew 3 r
    since_none r norm other is =
        before_new 2 r norm other (omega arith) (λ s a b c d e. let some = some_news v r in
        before_new 1 s a b (omega (arith, c)) (λ t f g h i j. let more = news_more v s d (omega (arith, e)) in
        none_then t f g (omega (arith, h, c)) i (omega (arith, j, e))))

    -- three rounds are enough for an interpreter that has just taken any value
    taken : (u : ℕ) → Lands 0 3 (nothing_counted mode.Norm u 0)
    taken u = elim (cases_eq u v) [ inl e ↦ inl (refl, e) | inr other ↦ inr (since_none (nothing_counted mode.Norm u 0) refl other refl) ]

    late_two : (r : Reading) → r.mode ≡ mode.Norm → r.value ≢ v → goes_up v r.value ≡ false → goes_down v r.value ≡ false → r.candidate ≡ v
        → 2 ≤ r.news → ByNew 1 r
    late_two r norm other up down at two =
        in_third r norm (new_neither r v norm other up down small) (let more = news_more v r at (omega arith) in omega arith)

    late_one : (r : Reading) → r.mode ≡ mode.Norm → r.value ≢ v → goes_up v r.value ≡ false → goes_down v r.value ≡ false → r.candidate ≡ v
        → r.news ≡ 1 → ByNew 2 r
    late_one r norm other up down at one =
        let more = news_more v r at (omega arith) in
        step_new 1 r (with_new r v (later r.since)) (in_counted w v normal carries small r norm (new_neither r v norm other up down small) (omega arith))
        (late_two (with_new r v (later r.since)) norm other up down refl (omega arith))

    late : (r : Reading) → r.mode ≡ mode.Norm → r.value ≢ v → goes_up v r.value ≡ false → goes_down v r.value ≡ false → ByNew 3 r
    late r norm other up down =
        let new = new_neither r v norm other up down small in
        elim (cases_lt (news_with r v) 3) [
          | inr third ↦ wider 1 3 r (omega arith) (in_third r norm new third)
          | inl less ↦ (let next = in_counted w v normal carries small r norm new less in
              elim (cases_lt (news_with r v) 2) [
                | inr two ↦ wider 2 3 r (omega arith) (step_new 1 r (with_new r v (later r.since)) next
                    (late_two (with_new r v (later r.since)) norm other up down refl two))
                | inl two ↦ step_new 2 r (with_new r v (later r.since)) next
                    (late_one (with_new r v (later r.since)) norm other up down refl (let some = some_news v r in omega arith))
              ])
        ]

    after_up : (r : Reading) → r.mode ≡ mode.Norm → normal_event r v ≡ event.Up → Lands 1 4 r
    after_up r norm is =
        step 0 3 r (nothing_counted mode.Norm (one_up r.value) 0) (reads w v normal carries mode.Norm r event.Up norm is ∙ norm_up r) (taken (one_up r.value))

    after_down : (r : Reading) → r.mode ≡ mode.Norm → normal_event r v ≡ event.Down → Lands 1 4 r
    after_down r norm is =
        step 0 3 r (nothing_counted mode.Norm (one_down r.value) 0) (reads w v normal carries mode.Norm r event.Down norm is ∙ norm_down r) (taken (one_down r.value))

    since_three : (r : Reading) → r.mode ≡ mode.Norm → r.value ≢ v → 3 ≤ r.since → Lands 1 4 r
    since_three r norm other full =
        elim (cases_Bool (goes_up v r.value)) [
          | inl up ↦ after_up r norm (up_event r v norm other full up)
          | inr up ↦ elim (cases_Bool (goes_down v r.value)) [
            | inl down ↦ after_down r norm (down_event r v norm other full up down)
            | inr down ↦ inr (wider 3 4 r (omega arith) (late r norm other up down))
          ]
        ]

    since_two : (r : Reading) → r.mode ≡ mode.Norm → r.value ≢ v → r.since ≡ 2 → Lands 2 5 r
    since_two r norm other is = before 1 4 r norm other (omega arith) (λ s a b c. since_three s a b (omega (arith, c)))

    since_one : (r : Reading) → r.mode ≡ mode.Norm → r.value ≢ v → r.since ≡ 1 → Lands 3 6 r
    since_one r norm other is = before 2 5 r norm other (omega arith) (λ s a b c. since_two s a b (omega (arith, c)))

    other_value : (r : Reading) → r.mode ≡ mode.Norm → r.value ≢ v → Lands 3 6 r
    other_value r norm other =
        elim (cases_lt r.since 3) [
          | inr e ↦ longer 1 4 3 6 r (omega arith) (omega arith) (since_three r norm other e)
          | inl no3 ↦ elim (cases_eq r.since 2) [
            | inl e ↦ longer 2 5 3 6 r (omega arith) (omega arith) (since_two r norm other e)
            | inr no2 ↦ elim (cases_eq r.since 1) [
              | inl e ↦ since_one r norm other e
              | inr no1 ↦ inr (wider 3 6 r (omega arith) (since_none r norm other (omega arith)))
            ]
          ]
        ]

    by_mode : (m : Mode) (r : Reading) → r.mode ≡ m → Lands 3 6 r
    by_mode mode.Ais r is = inr (wider 3 6 r (omega arith) (outside mode.Ais r is refl))
    by_mode mode.Lop r is = inr (wider 3 6 r (omega arith) (outside mode.Lop r is refl))
    by_mode mode.Norm r is =
        elim (cases_eq r.value v) [
          | inl at ↦ longer 0 6 3 6 r (omega arith) (omega arith) (inl (is, at))
          | inr other ↦ other_value r is other
        ]

    pub lands : (r : Reading) → Lands 3 6 r
    lands r = by_mode r.mode r refl
