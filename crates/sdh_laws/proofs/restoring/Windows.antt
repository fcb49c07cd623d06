-- A quiet window leaves a ring whose interpreters follow.
use Rattle.std.proofs.Common.{◌≡◌, ℕ, ◌+◌, ◌-◌, ◌<◌, ◌≤◌, Option, Some, None, length, refl, ap, sym, ◌∙◌, subst, arith}
use Rattle.std.proofs.Common.{inl, inr}
use Rattle.std.proofs.lemmas.Bool.{cases_Bool}
use Rattle.sdh_ringmap.specs.Fibres.{is_cut}
use Rattle.sdh_ringmap.specs.Places.{neighbour, opposite}
use Rattle.sdh_ringmap.specs.Rates.{n_of}
use Rattle.sdh_ringmap.specs.declared.Side.{Side}
use Rattle.sdh_pointer.specs.declared.reading.Action.{Action}
use Rattle.sdh_pointer.specs.declared.reading.Action.TheVariants as action
use Rattle.sdh_pointer.specs.declared.reading.Mode.TheVariants as mode
use Rattle.sdh_pointer.specs.declared.reading.Reading.{Reading}
use Rattle.sdh_pointer.specs.declared.word.Form.TheVariants as form
use Rattle.sdh_pointer.specs.Reading.{after_word, nothing_counted}
use Rattle.sdh_pointer.specs.Words.{word_of}
use Rattle.sdh_pointer.proofs.Forms.{normal_word, normal_value}
use Rattle.sdh_pointer.proofs.Settling.{ais_settles, normal_word_settles, stays_for}
use Rattle.sdh_signal.specs.Laws.{StillRingsAreSettled}
use Rattle.sdh_node.specs.Stations.{adm}
use Rattle.sdh_rounds.proofs.Runs.{known_settles}
use Rattle.sdh_spans.specs.Spans.{word_behind}
use Rattle.sdh_node.specs.Rings.Rounds.{World}
use Rattle.sdh_node.specs.Rings.Runs.{run, course}
use Rattle.sdh_node.specs.Rings.Quiet.{IsCalm}
use Rattle.sdh_node.specs.Rings.Sides.{condition_to}
use Rattle.sdh_laws.specs.Hearing.Laws.{IsWhole}
use Rattle.sdh_laws.proofs.hearing.Changes.{whole_run}
use Rattle.sdh_laws.proofs.hearing.Nodes.{count}
use Rattle.sdh_laws.proofs.hearing.Staying.{left_run}
use Rattle.sdh_laws.specs.Carrying.Windows.{layout_of, positions_of, HasCircuits}
use Rattle.sdh_laws.proofs.carrying.Ways.{layout_run}
use Rattle.sdh_laws.specs.Converging.Steady.{went}
use Rattle.sdh_laws.proofs.converging.Runs.{length_run, rate_run, run_more}
use Rattle.sdh_laws.proofs.converging.Spans.{sending_in, reading_in, word_in, generator_goes}
use Rattle.sdh_laws.proofs.converging.Spreading.{inside_of, beside}
use Rattle.sdh_laws.specs.Restoring.Followed.{IsWordOf, Follows, IsFollowed, pointer_word_on, WindowsLeaveFollowed, StepsLeaveFollowed}
use Rattle.sdh_laws.proofs.resting.Calm.{takes, behind, reading_kept, sending_kept, word_state, even_went, from_there}
use Rattle.sdh_laws.proofs.resting.Pointers.{IsEven, state_word}
use Rattle.sdh_laws.proofs.restoring.Followed.{plain_as, plain_ais, word_sent_on}
use Rattle.sdh_laws.proofs.restoring.Following.{IsPlainAction, word_next}
use Rattle.sdh_rounds.specs.Runs as any_run

-- ---- an interpreter that a word doesn't move

unmoved_by_ones : (r : Reading) → after_word r 65535 ≡ r → r ≡ nothing_counted mode.Ais r.value 0
unmoved_by_ones r still = sym (stays_for 3 65535 r still) ∙ ais_settles r 3 (omega arith)

unmoved_by_normal : (r : Reading) (v : ℕ) → v ≤ 782 → after_word r (word_of form.Normal v) ≡ r → r ≡ nothing_counted mode.Norm v 3
unmoved_by_normal r v small still =
    sym (stays_for 7 (word_of form.Normal v) r still)
    ∙ normal_word_settles r (word_of form.Normal v) 7 (normal_word v small) (let e = normal_value v small in omega arith) (omega arith)
    ∙ ap (λ x. nothing_counted mode.Norm x 3) (normal_value v small)

ais_follows : (r : Reading) (s : Option ℕ) (word : ℕ) → IsWordOf s word → r ≡ nothing_counted mode.Ais r.value 0 → Follows r s word
ais_follows r s word sent is =
    let ais : r.mode ≡ mode.Ais = ap (λ (x : Reading). x.mode) is in
    let news : r.news ≡ 0 = ap (λ (x : Reading). x.news) is in
    record {
      sound = record {
        small = λ norm. absurd (let e : mode.Ais ≡ mode.Norm = sym ais ∙ norm in cc);
        few = omega arith;
        kept = λ lost. (let e : mode.Ais ≡ mode.Lop = sym ais ∙ lost in cc);
        sent = sent;
      };
      value = λ v e n norm. absurd (let x : mode.Ais ≡ mode.Norm = sym ais ∙ norm in cc);
    }

norm_follows : (r : Reading) (v word : ℕ) → v ≤ 782 → IsWordOf (Some v) word → r ≡ nothing_counted mode.Norm v 3 → Follows r (Some v) word
norm_follows r v word fits sent is =
    let norm_is : r.mode ≡ mode.Norm = ap (λ (x : Reading). x.mode) is in
    let value_is : r.value ≡ v = ap (λ (x : Reading). x.value) is in
    let news : r.news ≡ 0 = ap (λ (x : Reading). x.news) is in
    record {
      sound = record {
        small = λ norm. omega arith;
        few = omega arith;
        kept = λ lost. (let e : mode.Norm ≡ mode.Lop = sym norm_is ∙ lost in cc);
        sent = sent;
      };
      value = λ u e n norm. value_is ∙ (let same : Some v ≡ Some u = e in let g : v ≡ u = cc in g);
    }

-- an interpreter that the word of a generator doesn't move follows it
unmoved_follows : (r : Reading) (s : Option ℕ) (word : ℕ) → IsWordOf s word → after_word r (state_word s) ≡ r → Follows r s word
unmoved_follows r None word sent still = ais_follows r None word sent (unmoved_by_ones r still)
unmoved_follows r (Some v) word sent still = norm_follows r v word sent.0 sent (unmoved_by_normal r v sent.0 still)

even_plain : (a : Action) (v : ℕ) → IsEven a v → IsPlainAction a v
even_plain a v (inl e) = plain_as a action.Ais v v e refl (plain_ais v)
even_plain a v (inr e) = plain_as a action.Normal v v e.0 refl (record { justifies = tt; small = λ f. e.1 })

-- ---- six calm rounds

module _ (law : StillRingsAreSettled) (w : World) (whole : IsWhole w) (form : HasCircuits (layout_of w))
    (calm : (j : ℕ) → 1 ≤ j → j ≤ 6 → IsCalm (course w) j) where
  module _ (p : ℕ) (d : Side) (i : ℕ) (h : p < length w.ring.ids) (few : i < n_of w.ring.settings.rate) where
    abbrev q : ℕ
    q = neighbour (length w.ring.ids) p d

    abbrev e : Side
    e = opposite d

    abbrev r : Reading
    r = reading_in w p d i 6

    abbrev s : Option ℕ
    s = sending_in w q e i 6

    q_inside : q < length w.ring.ids
    q_inside = beside w whole p d

    there : q < length w.ring.nodes
    there = inside_of w whole q q_inside

    sent_last : IsWordOf s (word_in w q e i 5)
    sent_last =
        subst (λ x. IsWordOf x (word_in w q e i 5)) (sym (generator_goes w whole q e i 5 there few))
        (word_next (sending_in w q e i 5) (went w q e (i + 1) 5).action (went w q e (i + 1) 5).value
        (even_plain (went w q e (i + 1) 5).action (went w q e (i + 1) 5).value
        (even_went law w whole form calm q e i 4 q_inside few (omega arith))))

    unmoved : after_word r (behind law w whole form calm p d i 4) ≡ r
    unmoved =
        let here = inside_of w whole p h in
        let kept = reading_kept law w whole form calm p d i 5 here (omega arith) in
        ap (λ x. after_word x (behind law w whole form calm p d i 4)) kept
        ∙ sym (takes law w whole form calm p d i 4 h few (omega arith)).reading

    -- the word that was read in the last round is that of the state
    word_is : word_in w q e i 4 ≡ state_word s
    word_is =
        word_state law w whole form calm q e i 3 q_inside few (omega arith)
        ∙ ap state_word (sym (sending_kept law w whole form calm q e i 5 there (omega arith)
        ∙ sending_kept law w whole form calm q e i 4 there (omega arith)))

    follows_last : Follows r s (word_in w q e i 5)
    follows_last = elim (cases_Bool (is_cut (condition_to w p d))) [
      | inl cut ↦ ais_follows r s (word_in w q e i 5) sent_last
          (unmoved_by_ones r (ap (λ b. after_word r (word_behind b (word_in w q e i 4))) (sym cut) ∙ unmoved))
      | inr clear ↦ unmoved_follows r s (word_in w q e i 5) sent_last
          (ap (after_word r) (sym word_is) ∙ ap (λ b. after_word r (word_behind b (word_in w q e i 4))) (sym clear) ∙ unmoved)
    ]

    -- the word that the fibre carries after the last round
    carried_last : pointer_word_on (run 6 w) q e (i + 1) ≡ word_in w q e i 5
    unfolding any_run.run
    carried_last =
        word_sent_on (run 5 w) (whole_run w 5 whole) q e i (omega (arith, there, length_run w 5)) (omega (arith, few, rate_run w 5))

    abbrev At : ℕ → Type 0
    At size = Follows r (sending_in w (neighbour size p d) e i 6) (pointer_word_on (run 6 w) (neighbour size p d) e (i + 1))

    at_last : At (length (run 6 w).ring.ids)
    at_last = subst At (sym (ap length (left_run 6 w).ids)) (subst (Follows r s) (sym carried_last) follows_last)

  pub six_follow : IsFollowed (run 6 w)
  six_follow p d i h few = at_last p d i (omega (arith, length_run w 6, count w whole.placed)) (omega (arith, rate_run w 6))

-- ---- a quiet window

pub windows_leave_followed : StillRingsAreSettled → WindowsLeaveFollowed
windows_leave_followed law w whole form k ends =
    let size = ap positions_of (layout_run w k) in
    let enough = whole.placed.ids.enough in
    let long = ends.long in
    let a = k - 6 in
    let six = six_follow law (run a w) (whole_run w a whole) (subst HasCircuits (sym (layout_run w a)) form)
    (λ j some few. from_there w a j (ends.calm (j + a) (omega arith) (omega arith))) in
    let now : 6 + a ≡ k = omega arith in
    subst IsFollowed (run_more w a 6 ∙ ap (λ j. run j w) now) six

pub steps_leave_followed : StillRingsAreSettled → StepsLeaveFollowed
steps_leave_followed law w left limit form settles whole =
    let known = known_settles adm w limit left (inl whole.paired.honest.honest) settles in
    subst IsFollowed (sym known.2) (windows_leave_followed law w whole form known.0 known.1.window)
