-- What an elastic store holds and gives, as a function of all that it took in. A history is the list of the chunks
-- that were taken in, the last one first; a turn that is a drift takes nothing in.
use Rattle.std.specs.Prelude.{ℕ, ◌-◌, Bool, true, ◌&&◌, List, [], ◌∷◌, ◌++◌, length, map, take, drop, sum_by, sum}
use Rattle.sdh_pointer.specs.declared.reading.Reading.{Reading}
use Rattle.sdh_pointer.specs.declared.reading.Action.{Action}
use Rattle.sdh_pointer.specs.declared.reading.Action.TheVariants as action
use Rattle.sdh_pointer.specs.Reading.{start, after_word}
use Rattle.sdh_elastic.specs.Turns.{given, next_action, is_held, value_after, word_for}

-- the fill: all bytes that were taken in, less all that were given
abbrev pub fill_by : List Action → List ℕ → ℕ
fill_by actions lengths = sum lengths - sum_by given actions

-- what the turns so far did, by the lengths of the chunks that they took in
unfoldable pub actions : List ℕ → List Action
actions [] = []
actions (n ∷ earlier) = next_action (actions earlier) (fill_by (actions earlier) earlier) ∷ actions earlier

-- the number of bytes held after these turns
abbrev pub fill : List ℕ → ℕ
fill lengths = fill_by (actions lengths) lengths

-- none of these turns is a drift
abbrev pub lasts : List ℕ → Bool
lasts [] = true
lasts (n ∷ earlier) = lasts earlier && is_held (fill (n ∷ earlier))

-- the number of bytes of each chunk
abbrev pub lengths : List (List ℕ) → List ℕ
lengths history = map length history

-- all bytes taken in, in their order
abbrev pub bytes_taken : List (List ℕ) → List ℕ
bytes_taken [] = []
bytes_taken (chunk ∷ earlier) = bytes_taken earlier ++ chunk

-- the number of bytes that were given
abbrev pub count_given : List (List ℕ) → ℕ
count_given history = sum_by given (actions (lengths history))

-- the bytes held: all that weren't given
abbrev pub bytes_held : List (List ℕ) → List ℕ
bytes_held history = drop (count_given history) (bytes_taken history)

-- what the last turn did, and Ais before the first
abbrev pub last_action : List (List ℕ) → Action
last_action [] = action.Ais
last_action (chunk ∷ earlier) = next_action (actions (lengths earlier)) (fill (lengths earlier))

-- the bytes that the last turn gave: the next ones of all bytes taken in
abbrev pub last_given : List (List ℕ) → List ℕ
last_given [] = []
last_given (chunk ∷ earlier) = take (given (last_action (chunk ∷ earlier))) (drop (count_given earlier) (bytes_taken (chunk ∷ earlier)))

-- all bytes given, in their order
abbrev pub given_in_all : List (List ℕ) → List ℕ
given_in_all [] = []
given_in_all (chunk ∷ earlier) = given_in_all earlier ++ last_given (chunk ∷ earlier)

-- the pointer value after turns with these actions, from the first value on
abbrev pub value_of : ℕ → List Action → ℕ
value_of first [] = first
value_of first (a ∷ earlier) = value_after a (value_of first earlier)

-- the pointer word of the last of the turns with these actions; all ones before the first
abbrev pub last_word : ℕ → List Action → ℕ
last_word first [] = 0xFFFF
last_word first (a ∷ earlier) = word_for a (value_of first earlier)

-- what an interpreter keeps that has read the words of all turns with these actions
abbrev pub heard_actions : ℕ → List Action → Reading
heard_actions first [] = start
heard_actions first (a ∷ earlier) = after_word (heard_actions first earlier) (last_word first (a ∷ earlier))
