-- What goes into an AU-4 that is sent, and what its pointer generator makes of it (pointer justification: ITU-T G.707
-- clause 8.1).
use Rattle.std.specs.Prelude.{ℕ, ◌+◌, ◌/◌, ◌%◌, Option, List, [], ◌∷◌, map, slice_index}
use Rattle.sdh_basics.specs.Indexed.{map_from}
use Rattle.sdh_frame.specs.Aus.{Au, ones}
use Rattle.sdh_pointer.specs.declared.reading.Action.{Action}
use Rattle.sdh_pointer.specs.declared.reading.Action.TheVariants as action
use Rattle.sdh_pointer.specs.declared.word.Form.{Form}
use Rattle.sdh_pointer.specs.declared.word.Form.TheVariants as form
use Rattle.sdh_pointer.specs.Sending.{Generator, form_sent, word_sent, next_sending}

-- An AU-4 that is sent, or that is dropped to a port, with the action that goes with it. The action is that of the
-- interpreter through which the AU-4 came, or that of the port which adds it. Where the AU-4 is sent, its generator is
-- asked for this action.
pub record Input : Type 0 where
  -- the action, and the pointer value after it
  pub action : Action
  pub value : ℕ
  -- the AU-4 as it came
  pub au : Au

-- the input of an AU-4 that is AIS
abbrev pub no_input : Input
no_input = record { action = action.Ais; value = 0; au = ones }

-- the three bytes H3 of the nine pointer bytes
abbrev pub h3_of : List ℕ → List ℕ
h3_of pointers = slice_index pointers 6 ∷ slice_index pointers 7 ∷ slice_index pointers 8 ∷ []

-- the three H3 bytes that are sent: they carry payload, and are passed on, where the word is that of a negative
-- justification; else they are zeros
abbrev pub h3_sent : Form → List ℕ → List ℕ
h3_sent form.Down pointers = h3_of pointers
h3_sent form.Normal pointers = 0 ∷ 0 ∷ 0 ∷ []
h3_sent form.Enabled pointers = 0 ∷ 0 ∷ 0 ∷ []
h3_sent form.Up pointers = 0 ∷ 0 ∷ 0 ∷ []
h3_sent form.Ais pointers = 0 ∷ 0 ∷ 0 ∷ []

-- the nine pointer bytes: H1, Y, Y, H2, two bytes of ones, and three bytes H3
abbrev pub pointers_with : ℕ → List ℕ → List ℕ
pointers_with w h3 = (w / 256) ∷ 0x9B ∷ 0x9B ∷ (w % 256) ∷ 0xFF ∷ 0xFF ∷ h3

-- an AU-4 with a word of this form in place of its own
abbrev pub au_with : Form → ℕ → Au → Au
au_with f w au = record { pointers = pointers_with w (h3_sent f au.pointers); payload = au.payload }

-- AIS is ones; every other AU-4 is passed on with the generator's word
abbrev pub au_for : Action → Form → ℕ → Au → Au
au_for action.Ais f w au = ones
au_for action.Normal f w au = au_with f w au
au_for action.New f w au = au_with f w au
au_for action.Up f w au = au_with f w au
au_for action.Down f w au = au_with f w au

-- the AU-4 that a generator in this state sends
unfoldable pub au_sent : Option ℕ → Input → Au
au_sent s i = au_for i.action (form_sent s i.action i.value) (word_sent s i.action i.value) i.au

-- the states of generators
abbrev pub states_of : List Generator → List (Option ℕ)
states_of generators = map (λ (g : Generator). g.sending) generators

-- all AU-4s that a side sends, by the input of each and the states of its generators; AU-4s are numbered from 1
unfoldable pub aus_sent : (ℕ → Input) → List (Option ℕ) → List Au
aus_sent input states = map_from (λ k s. au_sent s (input (k + 1))) 0 states

-- the states of a side's generators after they were given these inputs
unfoldable pub generators_after : (ℕ → Input) → List (Option ℕ) → List (Option ℕ)
generators_after input states = map_from (λ k s. next_sending s (input (k + 1)).action (input (k + 1)).value) 0 states
