-- The turns of an elastic store: what each one does, how many bytes it gives, and the pointer word that shows it. All
-- numbers are this project's own; the words and the moves of the pointer value are those of ITU-T G.707 clause 8.1.
use Rattle.std.specs.Prelude.{◌≤◌, ℕ, Bool, true, false, ◌||◌, ◌&&◌, not, nat_le, if◌then◌else◌, List, [], ◌∷◌}
use Rattle.sdh_pointer.specs.declared.reading.Action.{Action}
use Rattle.sdh_pointer.specs.declared.reading.Action.TheVariants.{Normal, New, Up, Down, Ais}
use Rattle.sdh_pointer.specs.declared.word.Form.TheVariants as form
use Rattle.sdh_pointer.specs.Words.{word_of, one_up, one_down}

-- a chunk that is taken in: a frame's 2349 bytes, three fewer to three more
abbrev pub IsChunk : ℕ → Type 0
IsChunk length = (2346 ≤ length) × (length ≤ 2352)

-- how many bytes a turn with this action gives: none in turn 1, then a frame's payload; three fewer at a positive
-- justification, three more at a negative one
abbrev pub given : Action → ℕ
given Ais = 0
given New = 2349
given Normal = 2349
given Up = 2346
given Down = 2352

-- whether a turn with this action is turn 2 or a justification; three turns must pass after it before the next
-- justification
abbrev pub moves : Action → Bool
moves New = true
moves Up = true
moves Down = true
moves Normal = false
moves Ais = false

-- what a turn that may justify does, by the fill before it
abbrev pub justified : ℕ → Action
justified fill = if nat_le 2352 fill then Down else if nat_le fill 2346 then Up else Normal

-- A list of actions says what the turns so far did, the last one first.

-- none of the last three turns was turn 2 or a justification
abbrev pub turn_may_justify : List Action → Bool
turn_may_justify [] = true
turn_may_justify (a ∷ []) = not (moves a)
turn_may_justify (a ∷ b ∷ []) = not (moves a || moves b)
turn_may_justify (a ∷ b ∷ c ∷ earlier) = not (moves a || moves b || moves c)

-- what the next turn does, by what the turns before it did and the fill before it
abbrev pub next_action : List Action → ℕ → Action
next_action [] fill = Ais
next_action (a ∷ []) fill = New
next_action (a ∷ b ∷ earlier) fill = if turn_may_justify (a ∷ b ∷ earlier) then justified fill else Normal

-- the fill after a turn is within its bounds; where it isn't, the turn is a drift
unfoldable pub is_held : ℕ → Bool
is_held fill = nat_le 2340 fill && nat_le fill 2358

-- the pointer value after a turn, by the one before it
unfoldable pub value_after : Action → ℕ → ℕ
value_after Up value = one_up value
value_after Down value = one_down value
value_after Normal value = value
value_after New value = value
value_after Ais value = value

-- the pointer word of a turn, by the value before it
unfoldable pub word_for : Action → ℕ → ℕ
word_for Ais value = word_of form.Ais value
word_for New value = word_of form.Enabled value
word_for Normal value = word_of form.Normal value
word_for Up value = word_of form.Up value
word_for Down value = word_of form.Down value
