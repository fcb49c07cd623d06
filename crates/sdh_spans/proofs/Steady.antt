-- One span in many rounds: what comes to rest after it.
use Rattle.std.proofs.Common.{◌≡◌, ℕ, zero, suc, ◌+◌, ◌-◌, ◌≤◌, Bool, true, false, Option, ap, ap₂, sym, ◌∙◌, subst, arith}
use Rattle.sdh_pointer.specs.declared.reading.Reading.{Reading}
use Rattle.sdh_pointer.specs.declared.reading.Action.TheVariants as action
use Rattle.sdh_pointer.specs.Words.{word_of}
use Rattle.sdh_pointer.specs.Reading.{action_on}
use Rattle.sdh_pointer.specs.Sending.{word_sent, next_sending}
use Rattle.sdh_pointer.specs.Repeated.{after_rounds}
use Rattle.sdh_pointer.specs.Laws.{lasting_form, lasting_state, ComesToRest}
use Rattle.sdh_pointer.proofs.Lasting.{inputs_last, repeated_words_rest}
use Rattle.sdh_terminal.specs.Passing.{Input}
use Rattle.sdh_spans.specs.Spans.{TakesWord, word_behind, IsConstant, GeneratorGoesBy, TakesBehind}
use Rattle.sdh_spans.specs.Laws.{GeneratorsRest, RestsBehind, SpansAreSteady}

-- ---- constants

pub constant_as : (f g : ℕ → Input) (k : ℕ) → ((j : ℕ) → g j ≡ f j) → IsConstant f k → IsConstant g k
constant_as f g k same c = record {
  does = c.does;
  value = c.value;
  sound = c.sound;
  does_is = λ j h. ap (λ (i : Input). i.action) (same j) ∙ c.does_is j h;
  value_is = λ j h. ap (λ (i : Input). i.value) (same j) ∙ c.value_is j h;
}

pub constant_later : (f : ℕ → Input) (k l : ℕ) → k ≤ l → IsConstant f k → IsConstant f l
constant_later f k l late c = record {
  does = c.does;
  value = c.value;
  sound = c.sound;
  does_is = λ j h. c.does_is j (omega arith);
  value_is = λ j h. c.value_is j (omega arith);
}

-- ---- a generator

module _ (went : ℕ → Input) (sending : ℕ → Option ℕ) (k : ℕ) (goes : GeneratorGoesBy went sending) (c : IsConstant went k) where
  sending_rests : (j : ℕ) → k + 1 ≤ j → sending j ≡ lasting_state c.does c.value
  sending_rests j h =
      let m = j - 1 in
      let now : suc m ≡ j = omega arith in
      ap sending (sym now) ∙ goes m
      ∙ ap₂ (λ a v. next_sending (sending m) a v) (c.does_is m (omega arith)) (c.value_is m (omega arith))
      ∙ (inputs_last (sending m) c.does c.value c.sound).state

  word_rests : (j : ℕ) → k + 1 ≤ j → word_sent (sending j) (went j).action (went j).value ≡ word_of (lasting_form c.does) c.value
  word_rests j h =
      ap (λ s. word_sent s (went j).action (went j).value) (sending_rests j h)
      ∙ ap₂ (λ a v. word_sent (lasting_state c.does c.value) a v) (c.does_is j (omega arith)) (c.value_is j (omega arith))
      ∙ (inputs_last (sending j) c.does c.value c.sound).word

pub generators_rest : GeneratorsRest
generators_rest went sending k goes c j h = sending_rests went sending k goes c j h

-- ---- the interpreter after the fibre

module _ (cut : Bool) (went came : ℕ → Input) (sending : ℕ → Option ℕ) (reading : ℕ → Reading) (k : ℕ) (goes : GeneratorGoesBy went sending)
    (behind : TakesBehind cut went sending reading came) (c : IsConstant went k) where
  abbrev word : ℕ
  word = word_behind cut (word_of (lasting_form c.does) c.value)

  takes : (m : ℕ) → k + 2 ≤ m → TakesWord (reading m) (reading (suc m)) (came m) word
  takes m h =
      let j = m - 1 in
      let now : suc j ≡ m = omega arith in
      subst (λ l. TakesWord (reading l) (reading (suc l)) (came l) word) now
      (subst (λ u. TakesWord (reading (suc j)) (reading (suc (suc j))) (came (suc j)) (word_behind cut u))
      (word_rests went sending k goes c j (omega arith)) (behind j))

  reads_on : (n t : ℕ) → k + 2 ≤ t → after_rounds n word (reading t) ≡ reading (t + n)
  reads_on zero t h = ap reading {x = t} {y = t + zero} (omega arith)
  reads_on (suc n) t h =
      ap (after_rounds n word) (sym (takes t h).reading) ∙ reads_on n (suc t) (omega arith)
      ∙ ap reading {x = suc t + n} {y = t + suc n} (omega arith)

  by_cut : (b : Bool) (r : Reading) → ComesToRest (word_behind b (word_of (lasting_form c.does) c.value)) r
  unfolding word_of
  by_cut true r = repeated_words_rest action.Ais 0 (λ e. absurd (cc)) r
  by_cut false r = repeated_words_rest c.does c.value c.sound r

  rests : ComesToRest word (reading (k + 2))
  rests = by_cut cut (reading (k + 2))

  there : (j : ℕ) → k + 9 ≤ j → reading j ≡ rests.last
  there j h =
      ap reading {x = j} {y = k + 2 + (j - (k + 2))} (omega arith) ∙ sym (reads_on (j - (k + 2)) (k + 2) (omega arith))
      ∙ rests.there (j - (k + 2)) (omega arith)

  rests_behind : RestsBehind reading came k
  rests_behind = record {
    stays = λ j h. there (suc j) (omega arith) ∙ sym (there j h);
    comes = record {
      does = action_on rests.last word;
      value = rests.last.value;
      sound = rests.sound;
      does_is = λ j h. (takes j (omega arith)).action ∙ ap (λ r. action_on r word) (there j h);
      value_is = λ j h. (takes j (omega arith)).value ∙ ap (λ (r : Reading). r.value) (there (suc j) (omega arith));
    };
  }

pub spans_are_steady : SpansAreSteady
spans_are_steady cut went came sending reading k goes behind c = rests_behind cut went came sending reading k goes behind c
