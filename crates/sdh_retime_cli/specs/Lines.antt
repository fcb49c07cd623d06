-- The lines of a run: for each turn the action that a pointer interpreter takes on the store's pointer word, the number
-- of bytes that the store holds afterwards, and, unless the action is AIS, the bytes that the store gave. The texts are
-- this project's own.
use Rattle.std.specs.Prelude.{ℕ, List, [], ◌∷◌, ◌++◌, codes, decimal, length}
use Rattle.sdh_basics.specs.Hexadecimal.{hex_of}
use Rattle.sdh_pointer.specs.declared.reading.Action.{Action}
use Rattle.sdh_pointer.specs.declared.reading.Action.TheVariants.{Normal, New, Up, Down, Ais}
use Rattle.sdh_elastic.specs.History.{fill, lengths, last_action, last_given}

abbrev pub action_word : Action → List ℕ
action_word Ais = codes "ais"
action_word New = codes "new"
action_word Normal = codes "plain"
action_word Up = codes "up"
action_word Down = codes "down"

-- the line of turn `number`, its action and the number of bytes held after it
abbrev pub turn_line : ℕ → Action → ℕ → List ℕ
turn_line number action fill = decimal number ++ codes " " ++ action_word action ++ codes " " ++ decimal fill ++ codes "\n"

-- the bytes given, in hexadecimal; no line where the turn gives none
abbrev pub given_line : Action → List ℕ → List ℕ
given_line Ais bytes = []
given_line New bytes = hex_of bytes ++ codes "\n"
given_line Normal bytes = hex_of bytes ++ codes "\n"
given_line Up bytes = hex_of bytes ++ codes "\n"
given_line Down bytes = hex_of bytes ++ codes "\n"

-- the lines of the last turn of a history
abbrev pub last_lines : List (List ℕ) → List ℕ
last_lines past = turn_line (length past) (last_action past) (fill (lengths past)) ++ given_line (last_action past) (last_given past)

-- the lines of all turns of a history
abbrev pub lines_of : List (List ℕ) → List ℕ
lines_of [] = []
lines_of (chunk ∷ earlier) = lines_of earlier ++ last_lines (chunk ∷ earlier)

-- the last line of a run in which n bytes were left, too few for a chunk
abbrev pub left_line : ℕ → List ℕ
left_line n = codes "left " ++ decimal n ++ codes "\n"

-- the last line of a run in which this turn is a drift
abbrev pub drift_line : ℕ → List ℕ
drift_line number = codes "drift " ++ decimal number ++ codes "\n"
