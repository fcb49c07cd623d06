-- What a generator repeats brings an interpreter to rest.
use Rattle.std.proofs.Common.{◌≡◌, ℕ, ◌+◌, ◌≤◌, Bool, true, false, refl, ap, sym, ◌∙◌, arith}
use Rattle.std.specs.Prelude.{not, None}
use Rattle.sdh_pointer.specs.declared.reading.Reading.{Reading}
use Rattle.sdh_pointer.specs.declared.reading.Mode.{Mode}
use Rattle.sdh_pointer.specs.declared.reading.Mode.TheVariants as mode
use Rattle.sdh_pointer.specs.declared.reading.Action.TheVariants as action
use Rattle.sdh_pointer.specs.declared.word.Form.TheVariants as form
use Rattle.sdh_pointer.specs.Words.{is_normal, is_enabled, value_in, word_of}
use Rattle.sdh_pointer.specs.Reading.{after_word, action_on, nothing_counted, is_norm}
use Rattle.sdh_pointer.specs.Repeated.{after_rounds}
use Rattle.sdh_pointer.specs.Laws.{enabled_end, is_ais_action, IsSound, InputsLast, ComesToRest, RepeatedWordsRest}
use Rattle.sdh_pointer.proofs.Bounds.{answer_tells_mode}
use Rattle.sdh_pointer.proofs.Forms.{normal_word, normal_value, enabled_word, enabled_value}
use Rattle.sdh_pointer.proofs.Sent.{ais_sent, next_by_action, second_sent}
use Rattle.sdh_pointer.proofs.Settling.{in_parts, normal_word_settles, enabled_word_settles, ais_settles}

-- ---- one input for ever

pub inputs_last : InputsLast
inputs_last s action.Ais v sound = let a = ais_sent None v in record { state = next_by_action s action.Ais v; word = a.word }
inputs_last s action.Normal v sound = let a =
    second_sent action.Normal v (sound refl) in record { state = next_by_action s action.Normal v; word = a.word }
inputs_last s action.New v sound = let a =
    second_sent action.New v (sound refl) in record { state = next_by_action s action.New v; word = a.word }
inputs_last s action.Up v sound = let a =
    second_sent action.Up v (sound refl) in record { state = next_by_action s action.Up v; word = a.word }
inputs_last s action.Down v sound = let a =
    second_sent action.Down v (sound refl) in record { state = next_by_action s action.Down v; word = a.word }

-- ---- one word for ever

not_both : (b : Bool) → b ≡ true → b ≡ false → ⊥
not_both b t f = cc

-- outside Norm no answer has a value
sound_out : (last : Reading) (w : ℕ) → after_word last w ≡ last → is_norm last.mode ≡ false → IsSound (action_on last w) last.value
sound_out last w kept out =
    λ e. absurd (not_both (is_ais_action (action_on last w))
    (answer_tells_mode last w ∙ ap (λ (r : Reading). not (is_norm r.mode)) kept ∙ ap not out) e)

module _ (w : ℕ) (r : Reading) where
  -- after one round more the reading is as it was, so that the word keeps it
  kept_by : (last : Reading) → ((k : ℕ) → 7 ≤ k → after_rounds k w r ≡ last) → after_word last w ≡ last
  kept_by last ends =
      ap (λ x. after_word x w) (sym (ends 7 (omega arith))) ∙ sym (in_parts 7 1 w r) ∙ ap (λ k. after_rounds k w r) {x = 7 + 1} {y = 8} refl
      ∙ ends 8 (omega arith)

  rests : (last : Reading) → ((k : ℕ) → 7 ≤ k → after_rounds k w r ≡ last) → IsSound (action_on last w) last.value → ComesToRest w r
  rests last ends sound = record { last = last; there = ends; kept = kept_by last ends; sound = sound }

  rests_out : (last : Reading) → ((k : ℕ) → 7 ≤ k → after_rounds k w r ≡ last) → is_norm last.mode ≡ false → ComesToRest w r
  rests_out last ends out = rests last ends (sound_out last w (kept_by last ends) out)

  rests_normal : is_normal w ≡ true → value_in w ≤ 782 → ComesToRest w r
  rests_normal normal small = rests (nothing_counted mode.Norm (value_in w) 3) (λ k h. normal_word_settles r w k normal small h) (λ e. small)

  rests_enabled : (m : Mode) → r.mode ≡ m → is_enabled w ≡ true → value_in w ≤ 782 → ComesToRest w r
  rests_enabled mode.Norm is enabled small =
      rests (nothing_counted mode.Norm (value_in w) 0) (λ k h. enabled_word_settles r w k enabled small (omega arith)
      ∙ ap (λ m. enabled_end m r.value (value_in w)) is) (λ e. small)
  rests_enabled mode.Ais is enabled small =
      rests (nothing_counted mode.Norm (value_in w) 0) (λ k h. enabled_word_settles r w k enabled small (omega arith)
      ∙ ap (λ m. enabled_end m r.value (value_in w)) is) (λ e. small)
  rests_enabled mode.Lop is enabled small =
      rests_out (nothing_counted mode.Lop r.value 0) (λ k h. enabled_word_settles r w k enabled small (omega arith)
      ∙ ap (λ m. enabled_end m r.value (value_in w)) is) refl

  rests_ais : w ≡ 65535 → ComesToRest w r
  rests_ais is = rests_out (nothing_counted mode.Ais r.value 0) (λ k h. ap (λ z. after_rounds k z r) is ∙ ais_settles r k (omega arith)) refl

-- a new value for ever
rests_new : (v : ℕ) → v ≤ 782 → (r : Reading) → ComesToRest (word_of form.Enabled v) r
rests_new v small r = let e =
    enabled_value v small in rests_enabled (word_of form.Enabled v) r r.mode refl (enabled_word v small) (omega arith)

pub repeated_words_rest : RepeatedWordsRest
unfolding word_of
repeated_words_rest action.Ais v sound r = rests_ais 65535 r refl
repeated_words_rest action.Normal v sound r = let e = normal_value v (sound refl) in let small : v ≤ 782 =
    sound refl in rests_normal (word_of form.Normal v) r (normal_word v (sound refl)) (omega arith)
repeated_words_rest action.New v sound r = rests_new v (sound refl) r
repeated_words_rest action.Up v sound r = rests_new v (sound refl) r
repeated_words_rest action.Down v sound r = rests_new v (sound refl) r
