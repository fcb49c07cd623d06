-- A text with reserved room, as contracts see it.
use Rattle.std.specs.Prelude.{ℕ, ◌+◌, ◌-◌, List, ◌++◌, length}

-- the bytes so far, and the number of bytes for which there is room left
pub record Written : Type 0 where
  pub bytes : List ℕ
  pub room : ℕ

-- the text with a part after it, which takes its room
abbrev pub with_part : Written → List ℕ → Written
with_part w part = record { bytes = w.bytes ++ part; room = w.room - length part }

-- how many bytes a text has room for in all
abbrev pub room_in : Written → ℕ
room_in t = t.room + length t.bytes
