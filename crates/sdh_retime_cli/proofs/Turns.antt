-- A turn as an interpreter reads it, and its lines.
use Rattle.std.proofs.Common.{◌≡◌, ℕ, ◌+◌, ◌-◌, List, ◌∷◌, ◌++◌, length, ap, sym, ◌∙◌, arith}
use Rattle.std.proofs.lemmas.List.{append_assoc}
use Rattle.sdh_pointer.specs.declared.reading.Action.{Action}
use Rattle.sdh_pointer.specs.Reading.{Interpreter, start, action_on, after_word, after_step}
use Rattle.sdh_report.specs.Written.{Written, with_part}
use Rattle.sdh_elastic.specs.History.{fill, lengths, last_action, last_given}
use Rattle.sdh_elastic.specs.Store.{Store, empty, reading_in, reading_of}
use Rattle.sdh_retime_cli.specs.Lines.{turn_line, given_line, last_lines}

-- a new interpreter is where a new store begins
pub first_reading : (i : Interpreter) (s : Store) (first : ℕ) → i.reading ≡ start → s ≡ empty first → i.reading ≡ reading_of s
unfolding reading_in
first_reading i s first is new = is ∙ ap reading_of (sym new)

-- the interpreter reads what the turn did
pub read_action : (i : Interpreter) (s new : Store) (w : ℕ) (b a : Action) → i.reading ≡ reading_of s → w ≡ new.word
    → b ≡ action_on i.reading w → action_on (reading_of s) new.word ≡ a → b ≡ a
read_action i s new w b a at word is told = is ∙ ap (λ r. action_on r w) at ∙ ap (action_on (reading_of s)) word ∙ told

-- the interpreter goes on with the store
pub next_reading : (i j : Interpreter) (s new : Store) (w : ℕ) → i.reading ≡ reading_of s → w ≡ new.word → j ≡ after_step i w
    → after_word (reading_of s) new.word ≡ reading_of new → j.reading ≡ reading_of new
unfolding after_step
next_reading i j s new w at word is goes =
    ap (λ (k : Interpreter). k.reading) is ∙ ap (λ r. after_word r w) at ∙ ap (after_word (reading_of s)) word ∙ goes

-- what a line takes of the room
pub room_after : (w new : Written) (line : List ℕ) → new ≡ with_part w line → new.room ≡ w.room - length line
room_after w new line is = ap (λ (x : Written). x.room) is

-- the lines of a turn
pub lines_after : (w v new : Written) (number : ℕ) (a : Action) (f : ℕ) (out x : List ℕ) (past : List (List ℕ))
    → v ≡ with_part w (turn_line number a f) → new ≡ with_part v (given_line a out)
    → number ≡ length past + 1 → a ≡ last_action (x ∷ past) → f ≡ fill (lengths (x ∷ past)) → out ≡ last_given (x ∷ past)
    → new.bytes ≡ w.bytes ++ last_lines (x ∷ past)
lines_after w v new number a f out x past first second n is held given =
    let count : number ≡ length (x ∷ past) = omega arith in
    ap (λ (t : Written). t.bytes) second ∙ ap (λ (t : Written). t.bytes ++ given_line a out) first
    ∙ append_assoc w.bytes (turn_line number a f) (given_line a out)
    ∙ ap (λ (k : ℕ). w.bytes ++ (turn_line k a f ++ given_line a out)) count
    ∙ ap (λ (b : Action). w.bytes ++ (turn_line (length (x ∷ past)) b f ++ given_line b out)) is
    ∙ ap (λ (k : ℕ). w.bytes ++ (turn_line (length (x ∷ past)) (last_action (x ∷ past)) k ++ given_line (last_action (x ∷ past)) out)) held
    ∙ ap (λ (l : List ℕ). w.bytes ++ (turn_line (length (x ∷ past)) (last_action (x ∷ past)) (fill (lengths (x ∷ past)))
    ++ given_line (last_action (x ∷ past)) l)) given
