-- What an elastic store keeps of its history, which is enough for all later turns, and how a turn changes it.
use Rattle.std.specs.Prelude.{◌≡◌, ℕ, ◌+◌, ◌-◌, ◌*◌, ◌≤◌, Bool, true, ◌&&◌, if◌then◌else◌, List, [], ◌∷◌, ◌++◌, length, take, drop}
use Rattle.sdh_pointer.specs.declared.reading.Reading.{Reading}
use Rattle.sdh_pointer.specs.declared.reading.Mode.TheVariants as mode
use Rattle.sdh_pointer.specs.declared.reading.Action.{Action}
use Rattle.sdh_pointer.specs.declared.reading.Action.TheVariants as action
use Rattle.sdh_pointer.specs.Reading.{start, nothing_counted}
use Rattle.sdh_elastic.specs.declared.stage.Stage.{Stage}
use Rattle.sdh_elastic.specs.declared.stage.Stage.TheVariants.{First, Second, Moved, OneLater, TwoLater, Free}
use Rattle.sdh_elastic.specs.declared.lengths.Lengths.{Lengths}
use Rattle.sdh_elastic.specs.declared.lengths.Lengths.TheVariants.{Empty, One, Two, Three}
use Rattle.sdh_elastic.specs.Turns.{given, moves, justified, value_after, word_for, IsChunk}
use Rattle.sdh_elastic.specs.Lengths.{is_steady, last_lengths, with_length, keeps_steady}
use Rattle.sdh_elastic.specs.History as history

pub record Store : Type 0 where
  -- the bytes held, the first to be given first
  pub held : List ℕ
  -- which turn is next, or how many ran since the last one that was turn 2 or a justification
  pub stage : Stage
  -- the pointer value
  pub value : ℕ
  -- the pointer word of the last turn
  pub word : ℕ
  -- the lengths of the last three chunks
  pub lengths : Lengths
  -- whether the run was steady so far
  pub steady : Bool

-- a store that took nothing in
abbrev pub empty : ℕ → Store
empty value = record { held = []; stage = First; value = value; word = 0xFFFF; lengths = Empty; steady = true }

-- how many bytes a store has room for, whatever it holds: those of three chunks
abbrev pub room_of : Store → ℕ
room_of s = 3 * 2352

-- ---- stages

-- the stage after turns with these actions
abbrev pub stage_of : List Action → Stage
stage_of [] = First
stage_of (a ∷ []) = Second
stage_of (a ∷ b ∷ []) = if moves a then Moved else if moves b then OneLater else Free
stage_of (a ∷ b ∷ c ∷ earlier) = if moves a then Moved else if moves b then OneLater else if moves c then TwoLater else Free

-- what a turn in a stage does, by the fill before it
abbrev pub stage_action : Stage → ℕ → Action
stage_action First fill = action.Ais
stage_action Second fill = action.New
stage_action Moved fill = action.Normal
stage_action OneLater fill = action.Normal
stage_action TwoLater fill = action.Normal
stage_action Free fill = justified fill

-- the stage after a turn with this action
abbrev pub stage_after : Stage → Action → Stage
stage_after First a = Second
stage_after Second a = Moved
stage_after Moved a = OneLater
stage_after OneLater a = TwoLater
stage_after TwoLater a = Free
stage_after Free a = if moves a then Moved else Free

-- ---- a turn

-- what the next turn of a store does
abbrev pub action_at : Store → Action
action_at s = stage_action s.stage (length s.held)

-- the fill after a turn that takes in n bytes
abbrev pub fill_after : Store → ℕ → ℕ
fill_after s n = length s.held + n - given (action_at s)

-- the bytes that the next turn gives, where it takes this chunk in
abbrev pub given_at : Store → List ℕ → List ℕ
given_at s input = take (given (action_at s)) (s.held ++ input)

-- the store after the next turn, where it takes this chunk in
unfoldable pub after_turn : Store → List ℕ → Store
after_turn s input = record {
  held = drop (given (action_at s)) (s.held ++ input);
  stage = stage_after s.stage (action_at s);
  value = value_after (action_at s) s.value;
  word = word_for (action_at s) s.value;
  lengths = with_length (length input) s.lengths;
  steady = s.steady && keeps_steady (length input) s.lengths;
}

-- ---- histories

-- what a store keeps of a history, from the first pointer value on
unfoldable pub store_of : ℕ → List (List ℕ) → Store
store_of first past = record {
  held = history.bytes_held past;
  stage = stage_of (history.actions (history.lengths past));
  value = history.value_of first (history.actions (history.lengths past));
  word = history.last_word first (history.actions (history.lengths past));
  lengths = last_lengths (history.lengths past);
  steady = is_steady (history.lengths past);
}

-- s is what a store keeps after a history without drifts, from the first pointer value on
pub record StoreCameBy (first : ℕ) (past : List (List ℕ)) (s : Store) : Type 0 where
  pub lasts : history.lasts (history.lengths past) ≡ true
  pub kept : s ≡ store_of first past

-- a turn that took this chunk in goes on with a history: it gave the bytes `out`, did `a`, and left the store s
pub record GoesOn (first : ℕ) (past : List (List ℕ)) (chunk out : List ℕ) (a : Action) (s : Store) : Type 0 where
  pub store : StoreCameBy first (chunk ∷ past) s
  pub bytes : out ≡ history.last_given (chunk ∷ past)
  pub action : a ≡ history.last_action (chunk ∷ past)

-- ---- what an interpreter keeps that has read all words so far

-- what an interpreter that has read all words so far keeps in this stage
unfoldable pub reading_in : Stage → ℕ → Reading
reading_in First value = start
reading_in Second value = start
reading_in Moved value = nothing_counted mode.Norm value 0
reading_in OneLater value = nothing_counted mode.Norm value 1
reading_in TwoLater value = nothing_counted mode.Norm value 2
reading_in Free value = nothing_counted mode.Norm value 3

-- what an interpreter that has read all words of a store so far keeps
abbrev pub reading_of : Store → Reading
reading_of s = reading_in s.stage s.value

-- ---- bounds

-- each of the last lengths is that of a chunk
abbrev pub AreChunks : Lengths → Type 0
AreChunks Empty = Unit {0}
AreChunks (One a) = IsChunk a
AreChunks (Two a b) = IsChunk a × IsChunk b
AreChunks (Three a b c) = IsChunk a × IsChunk b × IsChunk c

-- How far the fill of a steady run can be from a frame's 2349 bytes. After turn 2, and after a justification, it is at
-- most three bytes from the length of the last chunk. In the next turns each chunk moves it by as much as its length
-- differs from 2349. Over four turns in a row these differences come to three bytes at most.
abbrev pub LengthsAreNear : Stage → Lengths → ℕ → Type 0
LengthsAreNear First Empty fill = fill ≡ 0
LengthsAreNear Second (One a) fill = fill ≡ a
LengthsAreNear Moved (Two a b) fill = (fill ≤ a + 3) × (a ≤ fill + 3)
LengthsAreNear Moved (Three a b c) fill = (fill ≤ a + 3) × (a ≤ fill + 3)
LengthsAreNear OneLater (Three a b c) fill = (fill + 2349 ≤ a + b + 3) × (a + b ≤ fill + 2352)
LengthsAreNear TwoLater (Three a b c) fill = (fill + 4698 ≤ a + b + c + 3) × (a + b + c ≤ fill + 4701)
LengthsAreNear Free (Three a b c) fill = (2343 ≤ fill) × (fill ≤ 2355)
LengthsAreNear stage lengths fill = ⊥

-- what holds in a stage: how many lengths are kept, and how many bytes are held
abbrev pub IsAt : Stage → Lengths → ℕ → Type 0
IsAt First Empty fill = fill ≡ 0
IsAt Second (One a) fill = fill ≡ a
IsAt Moved (Two a b) fill = (2340 ≤ fill) × (fill ≤ 2358)
IsAt Moved (Three a b c) fill = (2340 ≤ fill) × (fill ≤ 2358)
IsAt OneLater (Three a b c) fill = (2340 ≤ fill) × (fill ≤ 2358)
IsAt TwoLater (Three a b c) fill = (2340 ≤ fill) × (fill ≤ 2358)
IsAt Free (Three a b c) fill = (2340 ≤ fill) × (fill ≤ 2358)
IsAt stage lengths fill = ⊥

-- what is true of every store
pub record StoreIsBounded (s : Store) : Type 0 where
  pub at : IsAt s.stage s.lengths (length s.held)
  pub chunks : AreChunks s.lengths
  pub value : s.value ≤ 782
  pub near : s.steady ≡ true → LengthsAreNear s.stage s.lengths (length s.held)
