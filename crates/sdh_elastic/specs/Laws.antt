-- What holds of every run of an elastic store.
use Rattle.std.specs.Prelude.{◌≡◌, ℕ, ◌≤◌, true, List, ◌∷◌, ◌++◌, length}
use Rattle.std.specs.List.{All}
use Rattle.sdh_pointer.specs.Reading.{action_on}
use Rattle.sdh_elastic.specs.Turns.{next_action, IsChunk}
use Rattle.sdh_elastic.specs.Lengths.{is_steady}
use Rattle.sdh_elastic.specs.History.{actions, fill, lasts, lengths, bytes_taken, bytes_held, given_in_all, last_word, heard_actions}

-- the bytes given so far are the first ones of all bytes taken in, in their order, and the rest is held
abbrev pub GivenIsAFront : Type 0
GivenIsAFront = (past : List (List ℕ)) → lasts (lengths past) ≡ true → given_in_all past ++ bytes_held past ≡ bytes_taken past

-- no turn of a steady run is a drift
abbrev pub SteadyRunsLast : Type 0
SteadyRunsLast =
    (past : List (List ℕ)) → All (λ (chunk : List ℕ). IsChunk (length chunk)) past → is_steady (lengths past) ≡ true
    → lasts (lengths past) ≡ true

-- an interpreter that has read the words of all turns so far answers the next word with what its turn does
abbrev pub WordsTellActions : Type 0
WordsTellActions =
    (first n : ℕ) (earlier : List ℕ) → first ≤ 782
    → action_on (heard_actions first (actions earlier)) (last_word first (actions (n ∷ earlier))) ≡ next_action (actions earlier) (fill earlier)
