-- All bytes given are the front of the bytes taken in.
use Rattle.std.proofs.Common.{◌≡◌, ℕ, zero, suc, ◌+◌, ◌-◌, List, [], ◌∷◌, ◌++◌, length, take, drop, refl, ap, sym, ◌∙◌, inl, inr}
use Rattle.std.proofs.lemmas.List.{take-append-drop, drop-drop, append_assoc}
use Rattle.sdh_pointer.specs.declared.reading.Action.{Action}
use Rattle.sdh_pointer.specs.declared.reading.Action.TheVariants.{Normal, New, Up, Down, Ais}
use Rattle.sdh_elastic.specs.Turns.{given}
use Rattle.sdh_elastic.specs.History.{fill, lengths, bytes_taken, count_given, bytes_held, last_action, last_given, given_in_all}
use Rattle.sdh_elastic.proofs.Runs.{given_is_a_front}
use Rattle.sdh_retime_cli.specs.declared.status.Status.{Status}
use Rattle.sdh_retime_cli.specs.declared.status.Status.TheVariants as status
use Rattle.sdh_retime_cli.specs.Digits.{size_at, offset_at, chunks}
use Rattle.sdh_retime_cli.specs.Lines.{lines_of, turn_line, given_line, left_line, drift_line}
use Rattle.sdh_retime_cli.specs.Front.{TurnTold, turns_text, shown_with, all_shown, IsLastLine, TellsFront}
use Rattle.sdh_retime_cli.specs.Outcome.{Runs, IsRetimed}

-- the turns of a history
abbrev turns_of : List (List ℕ) → List TurnTold
turns_of [] = []
turns_of (chunk ∷ earlier) = record {
  action = last_action (chunk ∷ earlier);
  fill = fill (lengths (chunk ∷ earlier));
  given = last_given (chunk ∷ earlier);
} ∷ turns_of earlier

length-turns : (past : List (List ℕ)) → length (turns_of past) ≡ length past
length-turns [] = refl
length-turns (chunk ∷ earlier) = ap suc (length-turns earlier)

turns_are_lines : (past : List (List ℕ)) → turns_text (turns_of past) ≡ lines_of past
turns_are_lines [] = refl
turns_are_lines (chunk ∷ earlier) =
    let past = chunk ∷ earlier in
    let a = last_action past in
    let held_then = fill (lengths past) in
    let out = last_given past in
    ap (λ (l : List ℕ). l ++ (turn_line (suc (length (turns_of earlier))) a held_then ++ given_line a out)) (turns_are_lines earlier)
    ∙ ap (λ (n : ℕ). lines_of earlier ++ (turn_line (suc n) a held_then ++ given_line a out)) (length-turns earlier)

shown_given : (a : Action) (bytes : List ℕ) → shown_with a (take (given a) bytes) ≡ take (given a) bytes
shown_given Ais bytes = refl
shown_given New bytes = refl
shown_given Normal bytes = refl
shown_given Up bytes = refl
shown_given Down bytes = refl

all_shown_given : (past : List (List ℕ)) → all_shown (turns_of past) ≡ given_in_all past
all_shown_given [] = refl
all_shown_given (chunk ∷ earlier) =
    let past = chunk ∷ earlier in
    ap (λ (l : List ℕ). l ++ shown_with (last_action past) (last_given past)) (all_shown_given earlier)
    ∙ ap (λ (l : List ℕ). given_in_all earlier ++ l)
    (shown_given (last_action past) (drop (count_given earlier) (bytes_taken past)))

-- the chunks, and the bytes after them
taken_and_left : (digits bytes : List ℕ) (k : ℕ) → bytes_taken (chunks digits bytes k) ++ drop (offset_at digits k) bytes ≡ bytes
unfolding chunks offset_at
taken_and_left digits bytes zero = refl
taken_and_left digits bytes (suc k) =
    let s = size_at digits k in
    let o = offset_at digits k in
    let before = bytes_taken (chunks digits bytes k) in
    append_assoc before (take s (drop o bytes)) (drop (o + s) bytes)
    ∙ ap (λ (l : List ℕ). before ++ (take s (drop o bytes) ++ l)) (sym (drop-drop s o bytes))
    ∙ ap (λ (l : List ℕ). before ++ l) (take-append-drop s (drop o bytes))
    ∙ taken_and_left digits bytes k

front : (digits bytes : List ℕ) (k : ℕ) (text last : List ℕ) → Runs digits bytes k → text ≡ lines_of (chunks digits bytes k) ++ last
    → IsLastLine last → TellsFront bytes text
front digits bytes k text last runs is ends =
    let past = chunks digits bytes k in
    let behind = drop (offset_at digits k) bytes in
    record {
      turns = turns_of past;
      last = last;
      ends = ends;
      text_is = is ∙ ap (λ (l : List ℕ). l ++ last) (sym (turns_are_lines past));
      rest = bytes_held past ++ behind;
      front =
          ap (λ (l : List ℕ). l ++ (bytes_held past ++ behind)) (all_shown_given past)
          ∙ sym (append_assoc (given_in_all past) (bytes_held past) behind)
          ∙ ap (λ (l : List ℕ). l ++ behind) (given_is_a_front past runs.lasts)
          ∙ taken_and_left digits bytes k;
    }

-- in every run that came to its end
pub run_front : (digits bytes : List ℕ) (s : Status) (text : List ℕ) → IsRetimed digits bytes s text → TellsFront bytes text
run_front digits bytes status.Ok text (k, done) =
    let left = length bytes - offset_at digits k in
    front digits bytes k text (left_line left) done.runs done.written (inl (left, refl))
run_front digits bytes (status.Drift turn) text (k, drift) =
    front digits bytes k text (drift_line (suc k)) drift.runs drift.written (inr (suc k, refl))
run_front digits bytes status.Usage text run = absurd run
run_front digits bytes status.ReadFault text run = absurd run
run_front digits bytes status.WriteFault text run = absurd run
run_front digits bytes status.TooLong text run = absurd run
run_front digits bytes status.Memory text run = absurd run
