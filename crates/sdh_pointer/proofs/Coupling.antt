-- An interpreter that reads what a generator sends for the action of an interpreter before it.
use Rattle.std.proofs.Common.{◌≡◌, ℕ, ◌≤◌, refl, ap, sym, ◌∙◌, subst, Option, Some, None}
use Rattle.sdh_pointer.specs.declared.reading.Reading.{Reading}
use Rattle.sdh_pointer.specs.declared.reading.Mode.{Mode}
use Rattle.sdh_pointer.specs.declared.reading.Mode.TheVariants as mode
use Rattle.sdh_pointer.specs.declared.reading.Event.{Event}
use Rattle.sdh_pointer.specs.declared.reading.Event.TheVariants as event
use Rattle.sdh_pointer.specs.declared.word.Form.{Form}
use Rattle.sdh_pointer.specs.declared.word.Form.TheVariants as form
use Rattle.sdh_pointer.specs.declared.reading.Action.{Action}
use Rattle.sdh_pointer.specs.declared.reading.Action.TheVariants as action
use Rattle.sdh_pointer.specs.Words.{word_of, one_up, one_down}
use Rattle.sdh_pointer.specs.Reading.{event_of, after_in, action_in, after_word}
use Rattle.sdh_pointer.specs.Sending.{word_sent}
use Rattle.sdh_pointer.specs.Laws.{IsInStep, GoesOn, IsReadAsSent}
use Rattle.sdh_pointer.proofs.Forms.{of_normal, of_enabled, of_up, of_down, of_ais, same_event}
use Rattle.sdh_pointer.proofs.Rows.{norm_same, norm_ndf, norm_up, norm_down, ais_ais, ais_ndf, norm_same_action, norm_ndf_action}
use Rattle.sdh_pointer.proofs.Rows.{norm_up_action, norm_down_action, ais_ais_action, ais_ndf_action}
use Rattle.sdh_pointer.proofs.Sent.{IsSent, ais_sent, new_sent, normal_sent, up_sent, down_sent}
use Rattle.sdh_pointer.proofs.Settling.{by_event, action_by_event}

-- a word whose event leads to Norm at v with this action
read_so : (s : Option ℕ) (a : Action) (v : ℕ) (r : Reading) (f : Form) (x : ℕ) (m : Mode) (e : Event)
    → v ≤ 782 → IsSent s a v f x (Some v) → event_of r (word_of f x) ≡ e → r.mode ≡ m → action_in m e r ≡ a
    → (after_in m e r).mode ≡ mode.Norm → (after_in m e r).value ≡ v
    → IsReadAsSent s a v r
read_so s a v r f x m e small sent is at act norm val =
    let w = word_sent s a v in
    let ev : event_of r w ≡ e = ap (event_of r) sent.word ∙ is in
    let after : after_word r w ≡ after_in m e r = by_event r w m e at ev in
    let value : (after_word r w).value ≡ v = ap (λ (q : Reading). q.value) after ∙ val in
    record {
      answer = action_by_event r w m e at ev ∙ act;
      value = λ _. value;
      in_step = subst (λ n. IsInStep n (after_word r w)) (sym sent.next) (ap (λ (q : Reading). q.mode) after ∙ norm, value, small);
    }

pub reads_what_is_sent : (s : Option ℕ) (a : Action) (v : ℕ) (r : Reading) → v ≤ 782 → IsInStep s r → GoesOn s a v r → IsReadAsSent s a v r
reads_what_is_sent None action.New v r small at on =
    read_so None action.New v r form.Enabled v mode.Ais (event.Ndf v) small (new_sent None v) (of_enabled r v small) at (ais_ndf_action r v)
    (ap (λ (q : Reading). q.mode) (ais_ndf r v)) (ap (λ (q : Reading). q.value) (ais_ndf r v))
reads_what_is_sent (Some g) action.New v r small at on =
    read_so (Some g) action.New v r form.Enabled v mode.Norm (event.Ndf v) small (new_sent (Some g) v) (of_enabled r v small) at.0
    (norm_ndf_action r v)
    (ap (λ (q : Reading). q.mode) (norm_ndf r v)) (ap (λ (q : Reading). q.value) (norm_ndf r v))
reads_what_is_sent (Some g) action.Normal v r small at on =
    let same : v ≡ r.value = on ∙ sym at.1 in
    let is : event_of r (word_of form.Normal g) ≡ event.Same =
    ap (λ x. event_of r (word_of form.Normal x)) (sym on) ∙ of_normal r v small ∙ same_event r v at.0 (sym same) in
    read_so (Some g) action.Normal v r form.Normal g mode.Norm event.Same small (normal_sent g v on) is at.0 (norm_same_action r)
    (ap (λ (q : Reading). q.mode) (norm_same r)) (ap (λ (q : Reading). q.value) (norm_same r) ∙ sym same)
reads_what_is_sent (Some g) action.Up v r small at on =
    let is : event_of r (word_of form.Up g) ≡ event.Up =
    ap (λ x. event_of r (word_of form.Up x)) (sym at.1) ∙ of_up r at.0 on.1 (rw at.1 at.2) in
    read_so (Some g) action.Up v r form.Up g mode.Norm event.Up small (up_sent g v on.0) is at.0 (norm_up_action r)
    (ap (λ (q : Reading). q.mode) (norm_up r)) (ap (λ (q : Reading). q.value) (norm_up r) ∙ ap one_up at.1 ∙ sym on.0)
reads_what_is_sent (Some g) action.Down v r small at on =
    let is : event_of r (word_of form.Down g) ≡ event.Down =
    ap (λ x. event_of r (word_of form.Down x)) (sym at.1) ∙ of_down r at.0 on.1 (rw at.1 at.2) in
    read_so (Some g) action.Down v r form.Down g mode.Norm event.Down small (down_sent g v on.0) is at.0 (norm_down_action r)
    (ap (λ (q : Reading). q.mode) (norm_down r)) (ap (λ (q : Reading). q.value) (norm_down r) ∙ ap one_down at.1 ∙ sym on.0)
reads_what_is_sent None action.Ais v r small at on =
    let w = word_sent None action.Ais v in
    let ev : event_of r w ≡ event.Ais = ap (event_of r) (ais_sent None v).word ∙ of_ais r v in
    record {
      answer = action_by_event r w mode.Ais event.Ais at ev ∙ ais_ais_action r;
      value = λ other. absurd (other refl);
      in_step =
          subst (λ n. IsInStep n (after_word r w)) (sym (ais_sent None v).next)
          (ap (λ (q : Reading). q.mode) (by_event r w mode.Ais event.Ais at ev ∙ ais_ais r));
    }
reads_what_is_sent (Some g) action.Ais v r small at on = absurd on
reads_what_is_sent None action.Normal v r small at on = absurd on
reads_what_is_sent None action.Up v r small at on = absurd on
reads_what_is_sent None action.Down v r small at on = absurd on
