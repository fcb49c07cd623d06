-- The pointer generator: the table of its states and inputs. The state is None in Ais, and the value that it sends
-- otherwise. An input is an action and, unless that is Ais, the value after it. The table is this project's own.
use Rattle.std.specs.Prelude.{ℕ, Bool, true, false, ◌||◌, not, ◌==◌, List, [], ◌∷◌, Option, Some, None}
use Rattle.std.specs.List.{find}
use Rattle.std.specs.Option.{option_map_or}
use Rattle.sdh_pointer.specs.declared.reading.Action.{Action}
use Rattle.sdh_pointer.specs.declared.reading.Action.TheVariants as action
use Rattle.sdh_pointer.specs.declared.word.Form.{Form}
use Rattle.sdh_pointer.specs.declared.word.Form.TheVariants as form
use Rattle.sdh_pointer.specs.Words.{word_of, one_up, one_down}

-- The states and inputs of the rows. The first row is for the action Ais in any state. The next three are for a
-- generator that sends the value g: Normal with g, Up with one step more than g, and Down with one step less. The last
-- row is for all others.
abbrev pub is_ais_input : Option ℕ → Action → ℕ → Bool
is_ais_input s action.Ais v = true
is_ais_input s _ v = false

abbrev pub is_kept : Option ℕ → Action → ℕ → Bool
is_kept (Some g) action.Normal v = v == g
is_kept _ _ v = false

abbrev pub is_raised : Option ℕ → Action → ℕ → Bool
is_raised (Some g) action.Up v = v == one_up g
is_raised _ _ v = false

abbrev pub is_lowered : Option ℕ → Action → ℕ → Bool
is_lowered (Some g) action.Down v = v == one_down g
is_lowered _ _ v = false

abbrev pub is_other : Option ℕ → Action → ℕ → Bool
is_other s a v = not (is_ais_input s a v || is_kept s a v || is_raised s a v || is_lowered s a v)

-- the value that a word carries: that of the state, or that of the input
abbrev pub of_state : Option ℕ → ℕ → ℕ
of_state s v = option_map_or (λ g. g) s v

abbrev pub of_input : Option ℕ → ℕ → ℕ
of_input s v = v

-- the next state
abbrev pub ais_state : ℕ → Option ℕ
ais_state v = None

abbrev pub sends : ℕ → Option ℕ
sends v = Some v

-- A row: for these states and inputs, the form of the word with the value that it carries, and the next state.
pub record SendingRow : Type 0 where
  pub input : Option ℕ → Action → ℕ → Bool
  pub form : Form
  pub value : Option ℕ → ℕ → ℕ
  pub next : ℕ → Option ℕ

abbrev pub sending_row : (Option ℕ → Action → ℕ → Bool) → Form → (Option ℕ → ℕ → ℕ) → (ℕ → Option ℕ) → SendingRow
sending_row i f v n = record { input = i; form = f; value = v; next = n }

unfoldable pub sending_table : List SendingRow
sending_table =
    sending_row is_ais_input form.Ais of_input ais_state
    ∷ sending_row is_kept form.Normal of_state sends
    ∷ sending_row is_raised form.Up of_state sends
    ∷ sending_row is_lowered form.Down of_state sends
    ∷ sending_row is_other form.Enabled of_input sends
    ∷ []

-- the row of a state and an input
unfoldable pub sending_row_of : Option ℕ → Action → ℕ → Option SendingRow
sending_row_of s a v = find (λ row. row.input s a v) sending_table

-- ---- a step

-- the form of the word that is sent
unfoldable pub form_sent : Option ℕ → Action → ℕ → Form
form_sent s a v = option_map_or (λ row. row.form) (sending_row_of s a v) form.Ais

-- the value that the sent word carries
unfoldable pub value_sent : Option ℕ → Action → ℕ → ℕ
value_sent s a v = option_map_or (λ row. row.value s v) (sending_row_of s a v) v

unfoldable pub word_sent : Option ℕ → Action → ℕ → ℕ
word_sent s a v = word_of (form_sent s a v) (value_sent s a v)

-- the next state
unfoldable pub next_sending : Option ℕ → Action → ℕ → Option ℕ
next_sending s a v = option_map_or (λ row. row.next v) (sending_row_of s a v) None

abbrev pub same_sending : Option ℕ → Option ℕ → Bool
same_sending None None = true
same_sending None (Some h) = false
same_sending (Some g) None = false
same_sending (Some g) (Some h) = g == h

-- a generator: its state, the word of its last step, and whether that step changed the state
pub record Generator : Type 0 where
  pub sending : Option ℕ
  pub word : ℕ
  pub moved : Bool

unfoldable pub after_action : Generator → Action → ℕ → Generator
after_action g a v = record {
  sending = next_sending g.sending a v;
  word = word_sent g.sending a v;
  moved = not (same_sending (next_sending g.sending a v) g.sending);
}
