-- An interpreter that reads every word of a store answers what its turns do.
use Rattle.std.proofs.Common.{◌≡◌, ℕ, ◌≤◌, refl, ◌∙◌, inl, inr, arith}
use Rattle.sdh_pointer.specs.declared.reading.Reading.{Reading}
use Rattle.sdh_pointer.specs.declared.reading.Mode.{Mode}
use Rattle.sdh_pointer.specs.declared.reading.Mode.TheVariants as mode
use Rattle.sdh_pointer.specs.declared.reading.Event.{Event}
use Rattle.sdh_pointer.specs.declared.reading.Event.TheVariants as event
use Rattle.sdh_pointer.specs.declared.reading.Action.{Action}
use Rattle.sdh_pointer.specs.declared.reading.Action.TheVariants as action
use Rattle.sdh_pointer.specs.declared.word.Form.TheVariants as form
use Rattle.sdh_pointer.specs.Words.{word_of, one_up, one_down}
use Rattle.sdh_pointer.specs.Reading.{event_of, after_in, action_in, after_word, action_on, start, nothing_counted, later}
use Rattle.sdh_pointer.proofs.Forms.{of_normal, of_enabled, of_up, of_down, of_ais, same_event}
use Rattle.sdh_pointer.proofs.Rows.{norm_same, norm_up, norm_down, ais_ais, ais_ndf, norm_same_action, norm_up_action, norm_down_action}
use Rattle.sdh_pointer.proofs.Rows.{ais_ais_action, ais_ndf_action}
use Rattle.sdh_pointer.proofs.Settling.{by_event, action_by_event}
use Rattle.sdh_elastic.specs.declared.stage.Stage.{Stage}
use Rattle.sdh_elastic.specs.declared.stage.Stage.TheVariants.{First, Second, Moved, OneLater, TwoLater, Free}
use Rattle.sdh_elastic.specs.Turns.{value_after, word_for}
use Rattle.sdh_elastic.specs.Store as store
use Rattle.sdh_elastic.specs.Store.{stage_after, reading_in}
use Rattle.sdh_elastic.proofs.Near.{justifies}

-- a word is read as this action, and leads to this reading
pub record IsHeard (r : Reading) (w : ℕ) (a : Action) (s : Reading) : Type 0 where
  pub action : action_on r w ≡ a
  pub next : after_word r w ≡ s

-- by the event of the word and the table's row for it
by_row : (r : Reading) (w : ℕ) (m : Mode) (e : Event) (a : Action) (s : Reading) → r.mode ≡ m → event_of r w ≡ e → action_in m e r ≡ a
    → after_in m e r ≡ s → IsHeard r w a s
by_row r w m e a s at is act next = record { action = action_by_event r w m e at is ∙ act; next = by_event r w m e at is ∙ next }

heard_ais : (v : ℕ) → IsHeard start (word_of form.Ais v) action.Ais start
heard_ais v =
    by_row start (word_of form.Ais v) mode.Ais event.Ais action.Ais start refl (of_ais start v) (ais_ais_action start) (ais_ais start)

heard_new : (v : ℕ) → v ≤ 782 → IsHeard start (word_of form.Enabled v) action.New (nothing_counted mode.Norm v 0)
heard_new v small =
    by_row start (word_of form.Enabled v) mode.Ais (event.Ndf v) action.New (nothing_counted mode.Norm v 0) refl (of_enabled start v small)
    (ais_ndf_action start v) (ais_ndf start v)

heard_normal : (v since : ℕ) → v ≤ 782 → IsHeard (nothing_counted mode.Norm v since) (word_of form.Normal v) action.Normal
    (nothing_counted mode.Norm v (later since))
heard_normal v since small =
    let r : Reading = nothing_counted mode.Norm v since in
    by_row r (word_of form.Normal v) mode.Norm event.Same action.Normal (nothing_counted mode.Norm v (later since)) refl
    (of_normal r v small ∙ same_event r v refl refl) (norm_same_action r) (norm_same r)

heard_up : (v : ℕ) → v ≤ 782 → IsHeard (nothing_counted mode.Norm v 3) (word_of form.Up v) action.Up (nothing_counted mode.Norm (one_up v) 0)
heard_up v small =
    let r : Reading = nothing_counted mode.Norm v 3 in
    by_row r (word_of form.Up v) mode.Norm event.Up action.Up (nothing_counted mode.Norm (one_up v) 0) refl (of_up r refl (omega arith) small)
    (norm_up_action r) (norm_up r)

heard_down : (v : ℕ) → v ≤ 782 → IsHeard (nothing_counted mode.Norm v 3) (word_of form.Down v) action.Down (nothing_counted mode.Norm (one_down v) 0)
heard_down v small =
    let r : Reading = nothing_counted mode.Norm v 3 in
    by_row r (word_of form.Down v) mode.Norm event.Down action.Down (nothing_counted mode.Norm (one_down v) 0) refl
    (of_down r refl (omega arith) small) (norm_down_action r) (norm_down r)

-- the word of a turn in a stage is read as what the turn does
pub turn_is_heard : (st : Stage) (v f : ℕ) → v ≤ 782
    → IsHeard (reading_in st v) (word_for (store.stage_action st f) v) (store.stage_action st f)
    (reading_in (stage_after st (store.stage_action st f)) (value_after (store.stage_action st f) v))
unfolding reading_in word_for value_after
turn_is_heard First v f small = heard_ais v
turn_is_heard Second v f small = heard_new v small
turn_is_heard Moved v f small = heard_normal v 0 small
turn_is_heard OneLater v f small = heard_normal v 1 small
turn_is_heard TwoLater v f small = heard_normal v 2 small
turn_is_heard Free v f small =
    elim (justifies f).cases [
      | inl p ↦ rw p.1 (heard_down v small)
      | inr q ↦ elim q [ inl p ↦ rw p.1 (heard_up v small) | inr p ↦ rw p.2 (heard_normal v 3 small) ]
    ]
