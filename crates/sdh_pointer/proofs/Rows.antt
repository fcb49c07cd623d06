-- The rows of the two tables, each as an equation; and that each case has exactly one.
use Rattle.std.proofs.Common.{◌≡◌, ℕ, ◌+◌, Bool, true, false, [], ◌∷◌, Option, Some, None, refl, ap, arith, inl, inr, eqb, leb}
use Rattle.std.specs.Prelude.{◌||◌, not, nat_le, if◌then◌else◌}
use Rattle.std.specs.List.{filter}
use Rattle.std.proofs.lemmas.Bool.{cases_Bool, le-leb}
use Rattle.sdh_pointer.specs.declared.reading.Reading.{Reading}
use Rattle.sdh_pointer.specs.declared.reading.Mode.{Mode}
use Rattle.sdh_pointer.specs.declared.reading.Mode.TheVariants as mode
use Rattle.sdh_pointer.specs.declared.reading.Event.{Event}
use Rattle.sdh_pointer.specs.declared.reading.Event.TheVariants as event
use Rattle.sdh_pointer.specs.declared.reading.Action.{Action}
use Rattle.sdh_pointer.specs.declared.reading.Action.TheVariants as action
use Rattle.sdh_pointer.specs.declared.word.Form.TheVariants as form
use Rattle.sdh_pointer.specs.Words.{is_normal, is_enabled, value_in, one_up, one_down}
use Rattle.sdh_pointer.specs.Reading.{is_norm, normal_event, event_of, after_in, action_in, after_event}
use Rattle.sdh_pointer.specs.Reading.{action_on_event, after_word, action_on, reading_row_of, is_row_of, reading_table, after_row}
use Rattle.sdh_pointer.specs.Reading.{action_row, nothing_counted, with_ais, with_new, news_with, later, is_same, is_up, is_down}
use Rattle.sdh_pointer.specs.Reading.{ReadingRow}
use Rattle.sdh_pointer.specs.Sending.{is_kept, is_raised, is_lowered, is_other, of_state, of_input, sends, sending_row, sending_row_of}
use Rattle.sdh_pointer.specs.Sending.{sending_table, form_sent, value_sent, word_sent, next_sending}
use Rattle.sdh_pointer.specs.Laws.{HasRow, HasSendingRow}

-- ---- the rows of mode Norm

pub norm_same : (r : Reading) → after_in mode.Norm event.Same r ≡ nothing_counted mode.Norm r.value (later r.since)
unfolding after_in reading_row_of reading_table
norm_same r = refl

pub norm_ndf : (r : Reading) (v : ℕ) → after_in mode.Norm (event.Ndf v) r ≡ nothing_counted mode.Norm v 0
unfolding after_in reading_row_of reading_table
norm_ndf r v = refl

pub norm_up : (r : Reading) → after_in mode.Norm event.Up r ≡ nothing_counted mode.Norm (one_up r.value) 0
unfolding after_in reading_row_of reading_table
norm_up r = refl

pub norm_down : (r : Reading) → after_in mode.Norm event.Down r ≡ nothing_counted mode.Norm (one_down r.value) 0
unfolding after_in reading_row_of reading_table
norm_down r = refl

pub norm_new : (r : Reading) (v : ℕ) → after_in mode.Norm (event.New v) r
    ≡ (if nat_le 3 (news_with r v) then nothing_counted mode.Norm v (later r.since) else with_new r v (later r.since))
unfolding after_in reading_row_of reading_table
norm_new r v = refl

pub norm_ais : (r : Reading) → after_in mode.Norm event.Ais r
    ≡ (if nat_le 3 (r.ais + 1) then nothing_counted mode.Ais r.value 0 else with_ais r (later r.since))
unfolding after_in reading_row_of reading_table
norm_ais r = refl

-- ---- those of modes Ais and Lop

pub ais_ais : (r : Reading) → after_in mode.Ais event.Ais r ≡ nothing_counted mode.Ais r.value 0
unfolding after_in reading_row_of reading_table
ais_ais r = let one : leb 1 (r.ais + 1) ≡ true = le-leb _ _ (omega arith) in rw one refl

pub ais_ndf : (r : Reading) (v : ℕ) → after_in mode.Ais (event.Ndf v) r ≡ nothing_counted mode.Norm v 0
unfolding after_in reading_row_of reading_table
ais_ndf r v = refl

pub ais_new : (r : Reading) (v : ℕ) → after_in mode.Ais (event.New v) r
    ≡ (if nat_le 3 (news_with r v) then nothing_counted mode.Norm v 0 else with_new r v 0)
unfolding after_in reading_row_of reading_table
ais_new r v = refl

pub lop_ais : (r : Reading) → after_in mode.Lop event.Ais r ≡ (if nat_le 3 (r.ais + 1) then nothing_counted mode.Ais r.value 0 else with_ais r 0)
unfolding after_in reading_row_of reading_table
lop_ais r = refl

pub lop_ndf : (r : Reading) (v : ℕ) → after_in mode.Lop (event.Ndf v) r ≡ nothing_counted mode.Lop r.value 0
unfolding after_in reading_row_of reading_table
lop_ndf r v = refl

pub lop_new : (r : Reading) (v : ℕ) → after_in mode.Lop (event.New v) r
    ≡ (if nat_le 3 (news_with r v) then nothing_counted mode.Norm v 0 else with_new r v 0)
unfolding after_in reading_row_of reading_table
lop_new r v = refl

-- ---- actions

pub norm_same_action : (r : Reading) → action_in mode.Norm event.Same r ≡ action.Normal
unfolding action_in reading_row_of reading_table
norm_same_action r = refl

pub norm_ndf_action : (r : Reading) (v : ℕ) → action_in mode.Norm (event.Ndf v) r ≡ action.New
unfolding action_in reading_row_of reading_table
norm_ndf_action r v = refl

pub norm_up_action : (r : Reading) → action_in mode.Norm event.Up r ≡ action.Up
unfolding action_in reading_row_of reading_table
norm_up_action r = refl

pub norm_down_action : (r : Reading) → action_in mode.Norm event.Down r ≡ action.Down
unfolding action_in reading_row_of reading_table
norm_down_action r = refl

pub ais_ais_action : (r : Reading) → action_in mode.Ais event.Ais r ≡ action.Ais
unfolding action_in reading_row_of reading_table
ais_ais_action r = let one : leb 1 (r.ais + 1) ≡ true = le-leb _ _ (omega arith) in rw one refl

pub ais_ndf_action : (r : Reading) (v : ℕ) → action_in mode.Ais (event.Ndf v) r ≡ action.New
unfolding action_in reading_row_of reading_table
ais_ndf_action r v = refl

-- ---- each word has one row

-- whether an event can come in a mode: Same, Up and Down in Norm alone
abbrev pub can_come : Mode → Event → Bool
can_come m e = is_norm m || not (is_same e || is_up e || is_down e)

-- the row of a mode and an event, for a state
record IsRow (m : Mode) (e : Event) (r : Reading) : Type 0 where
  row : ReadingRow
  only : filter (is_row_of m e) reading_table ≡ row ∷ []
  next : after_in m e r ≡ after_row row r e
  action : action_in m e r ≡ action_row row r e

one_row : (m : Mode) (e : Event) (r : Reading) → can_come m e ≡ true → IsRow m e r
unfolding after_in action_in reading_row_of reading_table
one_row mode.Norm event.Same r h = record { row = _; only = refl; next = refl; action = refl }
one_row mode.Norm (event.Ndf v) r h = record { row = _; only = refl; next = refl; action = refl }
one_row mode.Norm event.Up r h = record { row = _; only = refl; next = refl; action = refl }
one_row mode.Norm event.Down r h = record { row = _; only = refl; next = refl; action = refl }
one_row mode.Norm (event.New v) r h = record { row = _; only = refl; next = refl; action = refl }
one_row mode.Norm event.Ais r h = record { row = _; only = refl; next = refl; action = refl }
one_row mode.Norm event.Bad r h = record { row = _; only = refl; next = refl; action = refl }
one_row mode.Ais event.Ais r h = record { row = _; only = refl; next = refl; action = refl }
one_row mode.Ais (event.Ndf v) r h = record { row = _; only = refl; next = refl; action = refl }
one_row mode.Ais (event.New v) r h = record { row = _; only = refl; next = refl; action = refl }
one_row mode.Ais event.Bad r h = record { row = _; only = refl; next = refl; action = refl }
one_row mode.Lop event.Ais r h = record { row = _; only = refl; next = refl; action = refl }
one_row mode.Lop (event.Ndf v) r h = record { row = _; only = refl; next = refl; action = refl }
one_row mode.Lop (event.New v) r h = record { row = _; only = refl; next = refl; action = refl }
one_row mode.Lop event.Bad r h = record { row = _; only = refl; next = refl; action = refl }
one_row mode.Ais event.Same r h = absurd (cc)
one_row mode.Ais event.Up r h = absurd (cc)
one_row mode.Ais event.Down r h = absurd (cc)
one_row mode.Lop event.Same r h = absurd (cc)
one_row mode.Lop event.Up r h = absurd (cc)
one_row mode.Lop event.Down r h = absurd (cc)

-- the event of a word can come
normal_comes : (m : Mode) (r : Reading) (v : ℕ) → r.mode ≡ m → can_come m (normal_event r v) ≡ true
unfolding normal_event
normal_comes mode.Norm r v is = refl
normal_comes mode.Ais r v is = rw is (elim (cases_Bool (leb v 782)) [ inl t ↦ rw t refl | inr f ↦ rw f refl ])
normal_comes mode.Lop r v is = rw is (elim (cases_Bool (leb v 782)) [ inl t ↦ rw t refl | inr f ↦ rw f refl ])

not_norm : (m : Mode) (e : Event) → (is_same e || is_up e || is_down e) ≡ false → can_come m e ≡ true
not_norm mode.Norm e h = refl
not_norm mode.Ais e h = ap not h
not_norm mode.Lop e h = ap not h

pub comes : (r : Reading) (w : ℕ) → can_come r.mode (event_of r w) ≡ true
unfolding event_of
comes r w =
    elim (cases_Bool (eqb w 65535)) [
      | inl ones ↦ rw ones (not_norm r.mode event.Ais refl)
      | inr other ↦ elim (cases_Bool (is_enabled w)) [
        | inl enabled ↦ elim (cases_Bool (leb (value_in w) 782)) [
          | inl small ↦ rw (other, enabled, small) (not_norm r.mode (event.Ndf (value_in w)) refl)
          | inr large ↦ rw (other, enabled, large) (not_norm r.mode event.Bad refl)
        ]
        | inr plain ↦ elim (cases_Bool (is_normal w)) [
          | inl normal ↦ rw (other, plain, normal) (normal_comes r.mode r (value_in w) refl)
          | inr neither ↦ rw (other, plain, neither) (not_norm r.mode event.Bad refl)
        ]
      ]
    ]

pub each_word_has_one_row : (r : Reading) (w : ℕ) → HasRow r w
unfolding after_word action_on after_event action_on_event
each_word_has_one_row r w =
    let h = one_row r.mode (event_of r w) r (comes r w) in
    record { row = h.row; only = h.only; next = h.next; answer = h.action }

-- ---- each input has one row

pub each_input_has_one_row : (s : Option ℕ) (a : Action) (v : ℕ) → HasSendingRow s a v
unfolding word_sent form_sent value_sent next_sending sending_row_of sending_table
each_input_has_one_row None action.Ais v = record { row = _; only = refl; word = refl; next = refl }
each_input_has_one_row (Some g) action.Ais v = record { row = _; only = refl; word = refl; next = refl }
each_input_has_one_row None action.New v = record { row = _; only = refl; word = refl; next = refl }
each_input_has_one_row (Some g) action.New v = record { row = _; only = refl; word = refl; next = refl }
each_input_has_one_row None action.Normal v = record { row = _; only = refl; word = refl; next = refl }
each_input_has_one_row None action.Up v = record { row = _; only = refl; word = refl; next = refl }
each_input_has_one_row None action.Down v = record { row = _; only = refl; word = refl; next = refl }
each_input_has_one_row (Some g) action.Normal v = elim (cases_Bool (eqb v g)) [
  | inl t ↦ record {
    row = sending_row is_kept form.Normal of_state sends;
    only = rw t refl;
    word = rw t refl;
    next = rw t refl;
  }
  | inr f ↦ record {
    row = sending_row is_other form.Enabled of_input sends;
    only = rw f refl;
    word = rw f refl;
    next = rw f refl;
  }
]
each_input_has_one_row (Some g) action.Up v = elim (cases_Bool (eqb v (one_up g))) [
  | inl t ↦ record {
    row = sending_row is_raised form.Up of_state sends;
    only = rw t refl;
    word = rw t refl;
    next = rw t refl;
  }
  | inr f ↦ record {
    row = sending_row is_other form.Enabled of_input sends;
    only = rw f refl;
    word = rw f refl;
    next = rw f refl;
  }
]
each_input_has_one_row (Some g) action.Down v = elim (cases_Bool (eqb v (one_down g))) [
  | inl t ↦ record {
    row = sending_row is_lowered form.Down of_state sends;
    only = rw t refl;
    word = rw t refl;
    next = rw t refl;
  }
  | inr f ↦ record {
    row = sending_row is_other form.Enabled of_input sends;
    only = rw f refl;
    word = rw f refl;
    next = rw f refl;
  }
]
