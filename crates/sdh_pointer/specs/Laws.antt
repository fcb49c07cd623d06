-- What holds of every interpreter and every generator: each table has one row for each case, an interpreter that reads
-- one word for ever settles, and an interpreter reads what the generator before it sends.
use Rattle.std.specs.Prelude.{◌≡◌, ◌≢◌, ◌↔◌, ℕ, ◌+◌, ◌≤◌, Bool, true, false, not, [], ◌∷◌, Option, Some, None}
use Rattle.std.specs.List.{filter}
use Rattle.sdh_pointer.specs.declared.reading.Reading.{Reading}
use Rattle.sdh_pointer.specs.declared.reading.Mode.{Mode}
use Rattle.sdh_pointer.specs.declared.reading.Mode.TheVariants as mode
use Rattle.sdh_pointer.specs.declared.reading.Action.{Action}
use Rattle.sdh_pointer.specs.declared.reading.Action.TheVariants as action
use Rattle.sdh_pointer.specs.declared.word.Form.{Form}
use Rattle.sdh_pointer.specs.declared.word.Form.TheVariants as form
use Rattle.sdh_pointer.specs.Words.{is_normal, is_enabled, value_in, word_of, one_up, one_down}
use Rattle.sdh_pointer.specs.Reading.{ReadingRow, Interpreter, IsBounded, start, is_norm, event_of, after_word, action_on, after_step}
use Rattle.sdh_pointer.specs.Reading.{nothing_counted, later, is_row_of, reading_table, after_row, action_row}
use Rattle.sdh_pointer.specs.Sending.{SendingRow, Generator, sending_table, after_action, word_sent, next_sending}
use Rattle.sdh_pointer.specs.Repeated.{after_rounds, after_inputs}
use Rattle.sdh_pointer.specs.Spreading.{IsSmall, IsValueOver, action_over, word_over, sending_over, reading_over}

-- ---- tables

-- exactly one row of the interpreter's table is that of a word in a state, and the step is by that row
pub record HasRow (r : Reading) (w : ℕ) : Type 0 where
  pub row : ReadingRow
  pub only : filter (is_row_of r.mode (event_of r w)) reading_table ≡ row ∷ []
  pub next : after_word r w ≡ after_row row r (event_of r w)
  pub answer : action_on r w ≡ action_row row r (event_of r w)

abbrev pub EachWordHasOneRow : Type 0
EachWordHasOneRow = (r : Reading) (w : ℕ) → HasRow r w

-- exactly one row of the generator's table is that of an input in a state, and the step is by that row
pub record HasSendingRow (s : Option ℕ) (a : Action) (v : ℕ) : Type 0 where
  pub row : SendingRow
  pub only : filter (λ (row : SendingRow). row.input s a v) sending_table ≡ row ∷ []
  pub word : word_sent s a v ≡ word_of row.form (row.value s v)
  pub next : next_sending s a v ≡ row.next v

abbrev pub EachInputHasOneRow : Type 0
EachInputHasOneRow = (s : Option ℕ) (a : Action) (v : ℕ) → HasSendingRow s a v

-- ---- single steps

-- the answer is Ais exactly where the next mode isn't Norm
abbrev pub is_ais_action : Action → Bool
is_ais_action action.Ais = true
is_ais_action action.Normal = false
is_ais_action action.New = false
is_ais_action action.Up = false
is_ais_action action.Down = false

abbrev pub AnswerTellsMode : Type 0
AnswerTellsMode = (r : Reading) (w : ℕ) → is_ais_action (action_on r w) ≡ not (is_norm (after_word r w).mode)

-- a new interpreter is within the bounds of `IsBounded`, and each word leaves it within them
abbrev pub BoundsAreKept : Type 0
BoundsAreKept = IsBounded start × ((r : Reading) (w : ℕ) → IsBounded r → IsBounded (after_word r w))

-- `moved` is false after a step exactly where the step left all that is kept as it was
abbrev pub InterpreterMoves : Type 0
InterpreterMoves = (i : Interpreter) (w : ℕ) → ((after_step i w).moved ≡ false) ↔ ((after_step i w).reading ≡ i.reading)

abbrev pub GeneratorMoves : Type 0
GeneratorMoves = (g : Generator) (a : Action) (v : ℕ) → ((after_action g a v).moved ≡ false) ↔ ((after_action g a v).sending ≡ g.sending)

-- ---- one input for ever

-- the form of the word that a generator repeats, and the state that it stays in
abbrev pub lasting_form : Action → Form
lasting_form action.Normal = form.Normal
lasting_form action.New = form.Enabled
lasting_form action.Up = form.Enabled
lasting_form action.Down = form.Enabled
lasting_form action.Ais = form.Ais

abbrev pub lasting_state : Action → ℕ → Option ℕ
lasting_state action.Normal v = Some v
lasting_state action.New v = Some v
lasting_state action.Up v = Some v
lasting_state action.Down v = Some v
lasting_state action.Ais v = None

-- from its second step on a generator that is given one input for ever repeats one word and keeps its state
abbrev pub GeneratorRepeats : Type 0
GeneratorRepeats =
    (g : Generator) (a : Action) (v k : ℕ) → v ≤ 782 → 2 ≤ k
    → after_inputs k a v g ≡ record { sending = lasting_state a v; word = word_of (lasting_form a) v; moved = false }

-- AIS has no value; every other action has that of a pointer
abbrev pub IsSound : Action → ℕ → Type 0
IsSound a v = is_ais_action a ≡ false → v ≤ 782

-- an input leads to one state, whatever the state was, and in that state it is answered by one word
pub record Lasts (s : Option ℕ) (a : Action) (v : ℕ) : Type 0 where
  pub state : next_sending s a v ≡ lasting_state a v
  pub word : word_sent (lasting_state a v) a v ≡ word_of (lasting_form a) v

abbrev pub InputsLast : Type 0
InputsLast = (s : Option ℕ) (a : Action) (v : ℕ) → IsSound a v → Lasts s a v

-- ---- one word for ever

-- one normal word for ever: after at most seven rounds the interpreter is in Norm at its value with `since` 3
abbrev pub NormalWordSettles : Type 0
NormalWordSettles =
    (r : Reading) (w k : ℕ) → is_normal w ≡ true → value_in w ≤ 782 → 7 ≤ k → after_rounds k w r ≡ nothing_counted mode.Norm (value_in w) 3

-- one enabled word for ever: after one round the interpreter is in Norm at its value, or stays in Lop
abbrev pub enabled_end : Mode → ℕ → ℕ → Reading
enabled_end mode.Norm old v = nothing_counted mode.Norm v 0
enabled_end mode.Ais old v = nothing_counted mode.Norm v 0
enabled_end mode.Lop old v = nothing_counted mode.Lop old 0

abbrev pub EnabledWordSettles : Type 0
EnabledWordSettles =
    (r : Reading) (w k : ℕ) → is_enabled w ≡ true → value_in w ≤ 782 → 1 ≤ k → after_rounds k w r ≡ enabled_end r.mode r.value (value_in w)

-- all ones for ever: after at most three rounds the interpreter is in Ais
abbrev pub AisSettles : Type 0
AisSettles = (r : Reading) (k : ℕ) → 3 ≤ k → after_rounds k 0xFFFF r ≡ nothing_counted mode.Ais r.value 0

-- one word for ever brings an interpreter to rest: after seven rounds it stays in one state, which that word leaves as
-- it is, and answers one action with one value
pub record ComesToRest (w : ℕ) (r : Reading) : Type 0 where
  pub last : Reading
  pub there : (k : ℕ) → 7 ≤ k → after_rounds k w r ≡ last
  pub kept : after_word last w ≡ last
  pub sound : IsSound (action_on last w) last.value

-- each word that a generator repeats brings an interpreter to rest, whatever the interpreter kept
abbrev pub RepeatedWordsRest : Type 0
RepeatedWordsRest = (a : Action) (v : ℕ) → IsSound a v → (r : Reading) → ComesToRest (word_of (lasting_form a) v) r

-- ---- steps that move nothing

-- where a step reads a normal word and changes nothing, its answer is Normal at the value of the word
pub record IsPassed (i : Interpreter) (w : ℕ) : Type 0 where
  pub kept : i.reading ≡ nothing_counted mode.Norm (value_in w) 3
  pub answer : action_on i.reading w ≡ action.Normal
  pub value : (after_step i w).reading.value ≡ value_in w

abbrev pub UnmovedIsNormal : Type 0
UnmovedIsNormal =
    (i : Interpreter) (w : ℕ) → is_normal w ≡ true → value_in w ≤ 782 → (after_step i w).moved ≡ false → IsPassed i w

-- where a step reads all ones and changes nothing, its answer is Ais
abbrev pub UnmovedIsAis : Type 0
UnmovedIsAis = (i : Interpreter) → (after_step i 0xFFFF).moved ≡ false → action_on i.reading 0xFFFF ≡ action.Ais

-- an interpreter in Norm that reads a normal word of its value answers Normal and counts nothing; once `since` is 3
-- further such words don't move it
pub record IsSteady (i : Interpreter) (w : ℕ) : Type 0 where
  pub answer : action_on i.reading w ≡ action.Normal
  pub next : (after_step i w).reading ≡ nothing_counted mode.Norm (value_in w) (later i.reading.since)
  pub still : i.reading ≡ nothing_counted mode.Norm (value_in w) 3 → (after_step i w).moved ≡ false
  pub then_still : 2 ≤ i.reading.since → (after_step (after_step i w) w).moved ≡ false

abbrev pub SteadyIsNormal : Type 0
SteadyIsNormal =
    (i : Interpreter) (w : ℕ) → is_normal w ≡ true → i.reading.mode ≡ mode.Norm → i.reading.value ≡ value_in w → IsSteady i w

-- ---- from a generator to the interpreter after it

-- the interpreter after a generator is in step with it: in Norm at the value that is sent, or in Ais
abbrev pub IsInStep : Option ℕ → Reading → Type 0
IsInStep None r = r.mode ≡ mode.Ais
IsInStep (Some g) r = (r.mode ≡ mode.Norm) × (r.value ≡ g) × (g ≤ 782)

-- An action, with the value v, may follow what the generator sends. Normal keeps the value that is sent. Up and Down
-- change it by one step, and only where the next interpreter reads justifications. New may always follow, and Ais only
-- follows Ais.
abbrev pub GoesOn : Option ℕ → Action → ℕ → Reading → Type 0
GoesOn s action.New v r = Unit {0}
GoesOn (Some g) action.Normal v r = v ≡ g
GoesOn (Some g) action.Up v r = (v ≡ one_up g) × (3 ≤ r.since)
GoesOn (Some g) action.Down v r = (v ≡ one_down g) × (3 ≤ r.since)
GoesOn (Some g) action.Ais v r = ⊥
GoesOn None action.Ais v r = Unit {0}
GoesOn None action.Normal v r = ⊥
GoesOn None action.Up v r = ⊥
GoesOn None action.Down v r = ⊥

-- an interpreter in step reads the action that was sent with its value, and stays in step
pub record IsReadAsSent (s : Option ℕ) (a : Action) (v : ℕ) (r : Reading) : Type 0 where
  pub answer : action_on r (word_sent s a v) ≡ a
  pub value : a ≢ action.Ais → (after_word r (word_sent s a v)).value ≡ v
  pub in_step : IsInStep (next_sending s a v) (after_word r (word_sent s a v))

abbrev pub ReadsWhatIsSent : Type 0
ReadsWhatIsSent =
    (s : Option ℕ) (a : Action) (v : ℕ) (r : Reading) → v ≤ 782 → IsInStep s r → GoesOn s a v r → IsReadAsSent s a v r

-- ---- from span to span

-- What happens in round t, h spans after the source. The generator there is in the state `sending_over` and is given
-- the action `action_over`, with any value that can go with it. It sends `word_over`, and its state becomes that of the
-- next round. One round later the interpreter over the next span reads that word. Its answer is then the `action_over`
-- of that place and round, and what it keeps is the `reading_over` before the next round.
pub record SpreadsOver (o : Option ℕ) (h t : ℕ) : Type 0 where
  pub sending : (u : ℕ) → IsValueOver o h t u → next_sending (sending_over o h t) (action_over o h t) u ≡ sending_over o h (t + 1)
  pub word : (u : ℕ) → IsValueOver o h t u → word_sent (sending_over o h t) (action_over o h t) u ≡ word_over o h t
  pub reading : after_word (reading_over o (h + 1) (t + 1)) (word_over o h t) ≡ reading_over o (h + 1) (t + 2)
  pub action : action_on (reading_over o (h + 1) (t + 1)) (word_over o h t) ≡ action_over o (h + 1) (t + 1)

abbrev pub ValuesSpread : Type 0
ValuesSpread = (o : Option ℕ) (h t : ℕ) → IsSmall o → SpreadsOver o h t
