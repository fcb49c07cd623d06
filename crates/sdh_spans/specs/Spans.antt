-- One span: the sending half of a side, the fibre, and the receiving half of the side at its end; in one round, and in
-- many.
use Rattle.std.specs.Prelude.{ℕ, suc, ◌≡◌, ◌≢◌, ◌≤◌, Bool, if◌then◌else◌, Option, Some}
use Rattle.sdh_ringmap.specs.declared.terms.Rate.{Rate}
use Rattle.sdh_ringmap.specs.Rates.{n_of}
use Rattle.sdh_kbytes.specs.declared.Mark.TheVariants as mark
use Rattle.sdh_pointer.specs.declared.reading.Action.{Action}
use Rattle.sdh_pointer.specs.declared.reading.Reading.{Reading}
use Rattle.sdh_pointer.specs.Reading.{after_word, action_on}
use Rattle.sdh_pointer.specs.Sending.{word_sent, next_sending}
use Rattle.sdh_pointer.specs.Laws.{IsSound}
use Rattle.sdh_ringmap.specs.declared.terms.Condition.{Condition}
use Rattle.sdh_ringmap.specs.Fibres.{IsConditionAt}
use Rattle.sdh_plant.specs.Arrivals.{through}
use Rattle.sdh_terminal.specs.Passing.{Input}
use Rattle.sdh_terminal.specs.Receiving.{Inlet, taken_in, after_taking}
use Rattle.sdh_terminal.specs.Lines.{Line}
use Rattle.sdh_terminal.specs.Sending.{Sending, line_frame_from}
use Rattle.sdh_spans.specs.Sides.{IsInletAt, IsSenderAt, AreFull}

-- Side x sent a frame, of these AU-4s, on a fibre in condition c, and side i received in the next round what came.
pub record IsSpan (at : Rate) (c : Condition) (input : ℕ → Input) (x : Sending) (i : Inlet) : Type 0 where
  pub may : IsConditionAt at c
  pub sender : IsSenderAt at x
  -- the mark of the word isn't AIS of the multiplex section, with which a side fails
  pub no_ais : x.word.mark ≢ mark.MsAis
  pub full : AreFull input
  pub inlet : IsInletAt at i
  pub told : i.arrived ≡ Some (through (n_of at) c (Some (line_frame_from input x)))

-- what the node at the end of the fibre has on that side in the round in which it takes in what came
abbrev pub line_after : ℕ → Inlet → Line
line_after threshold i = record { readings = (after_taking threshold i).readings; intake = taken_in threshold i }

-- ---- one AU-4

-- one interpreter in a round: it takes a pointer word, and what comes in its AU-4 has the action and the value that the
-- interpreter gives
pub record TakesWord (old new : Reading) (i : Input) (word : ℕ) : Type 0 where
  pub reading : new ≡ after_word old word
  pub action : i.action ≡ action_on old word
  pub value : i.value ≡ new.value

-- the pointer word that is read after a fibre: ones where it is cut, whatever was sent
abbrev pub word_behind : Bool → ℕ → ℕ
word_behind cut word = if cut then 65535 else word

-- ---- in many rounds

-- from round k on what f gives has one action and one value
pub record IsConstant (f : ℕ → Input) (k : ℕ) : Type 0 where
  pub does : Action
  pub value : ℕ
  pub sound : IsSound does value
  pub does_is : (j : ℕ) → k ≤ j → (f j).action ≡ does
  pub value_is : (j : ℕ) → k ≤ j → (f j).value ≡ value

-- a generator goes on by what goes into its AU-4 round by round
abbrev pub GeneratorGoesBy : (ℕ → Input) → (ℕ → Option ℕ) → Type 0
GeneratorGoesBy went sending = (j : ℕ) → sending (suc j) ≡ next_sending (sending j) (went j).action (went j).value

-- the interpreter after the fibre goes by the word that was sent one round before
abbrev pub TakesBehind : Bool → (ℕ → Input) → (ℕ → Option ℕ) → (ℕ → Reading) → (ℕ → Input) → Type 0
TakesBehind cut went sending reading came =
    (j : ℕ) → TakesWord (reading (suc j)) (reading (suc (suc j))) (came (suc j))
    (word_behind cut (word_sent (sending j) (went j).action (went j).value))
