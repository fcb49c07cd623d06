-- What a run gives, as its lines show it. The bytes given in all turns, one after the other, are the front of the bytes
-- read.
use Rattle.std.specs.Prelude.{◌≡◌, ◌⊎◌, ℕ, suc, List, [], ◌∷◌, ◌++◌, length, Option}
use Rattle.std.specs.Io.KnownBytes.{Appends}
use Rattle.sdh_pointer.specs.declared.reading.Action.{Action}
use Rattle.sdh_pointer.specs.declared.reading.Action.TheVariants.{Normal, New, Up, Down, Ais}
use Rattle.sdh_retime_cli.specs.Lines.{turn_line, given_line, left_line, drift_line}

-- what the lines of a turn show: its action, the number of bytes held after it, and the bytes that it gave
pub record TurnTold : Type 0 where
  pub action : Action
  pub fill : ℕ
  pub given : List ℕ

-- the lines of all turns, in their order; in the list the last turn stands first
abbrev pub turns_text : List TurnTold → List ℕ
turns_text [] = []
turns_text (t ∷ earlier) =
    turns_text earlier ++ (turn_line (suc (length earlier)) t.action t.fill ++ given_line t.action t.given)

-- the bytes that the lines of a turn show: with AIS there are none
abbrev pub shown_with : Action → List ℕ → List ℕ
shown_with Ais bytes = []
shown_with New bytes = bytes
shown_with Normal bytes = bytes
shown_with Up bytes = bytes
shown_with Down bytes = bytes

-- what is shown of all turns, in their order
abbrev pub all_shown : List TurnTold → List ℕ
all_shown [] = []
all_shown (t ∷ earlier) = all_shown earlier ++ shown_with t.action t.given

-- the last line of a run
abbrev pub IsLastLine : List ℕ → Type 0
IsLastLine line = ((n : ℕ) × (line ≡ left_line n)) ⊎ ((turn : ℕ) × (line ≡ drift_line turn))

-- a text is made of the lines of turns and a last line, and all bytes that it shows are the front of `bytes`
pub record TellsFront (bytes text : List ℕ) : Type 0 where
  pub turns : List TurnTold
  pub last : List ℕ
  pub ends : IsLastLine last
  pub text_is : text ≡ turns_text turns ++ last
  pub rest : List ℕ
  pub front : all_shown turns ++ rest ≡ bytes

-- a text was appended, and the bytes that it shows are a front of the bytes that were read
abbrev pub WritesFront : List ℕ → Option (List ℕ) → Option (List ℕ) → Type 0
WritesFront bytes old new = (text : List ℕ) × TellsFront bytes text × Appends old new text
