-- A source that sends one value for ever from round 0 on, or AIS for ever (None), followed from span to span. Over each
-- span an interpreter reads what was sent one round before, and a generator sends it on. In round 0 no interpreter
-- reads.
use Rattle.std.specs.Prelude.{ℕ, ◌≡◌, ◌+◌, ◌-◌, ◌≤◌, min, nat_le, nat_lt, ◌&&◌, ◌==◌, if◌then◌else◌, Option, Some, None}
use Rattle.sdh_pointer.specs.declared.reading.Action.{Action}
use Rattle.sdh_pointer.specs.declared.reading.Action.TheVariants as action
use Rattle.sdh_pointer.specs.declared.reading.Mode.TheVariants as mode
use Rattle.sdh_pointer.specs.declared.reading.Reading.{Reading}
use Rattle.sdh_pointer.specs.declared.word.Form.TheVariants as form
use Rattle.sdh_pointer.specs.Words.{word_of}
use Rattle.sdh_pointer.specs.Reading.{start, nothing_counted}

abbrev pub IsSmall : Option ℕ → Type 0
IsSmall None = Unit {0}
IsSmall (Some v) = v ≤ 782

-- the action in round t, h spans after the source: Ais until the value comes there in round h, New in that round, and
-- Normal from then on; at the source itself it is Normal from round 0 on
abbrev pub action_over : Option ℕ → ℕ → ℕ → Action
action_over None h t = action.Ais
action_over (Some v) h t = if nat_lt t h then action.Ais else if nat_le 1 h && (t == h) then action.New else action.Normal

-- The value u can go with the action in round t, h spans after the source. From round h on only the source's value can,
-- if it sends one. Otherwise every value can.
abbrev pub IsValueOver : Option ℕ → ℕ → ℕ → ℕ → Type 0
IsValueOver None h t u = Unit {0}
IsValueOver (Some v) h t u = h ≤ t → u ≡ v

-- the word that is sent in round t, h spans after the source
abbrev pub word_over : Option ℕ → ℕ → ℕ → ℕ
word_over None h t = 0xFFFF
word_over (Some v) h t = if nat_lt t h then 0xFFFF else if t == h then word_of form.Enabled v else word_of form.Normal v

-- the state before round t of the generator h spans after the source
abbrev pub sending_over : Option ℕ → ℕ → ℕ → Option ℕ
sending_over None h t = None
sending_over (Some v) h t = if nat_lt h t then Some v else None

-- what the interpreter h spans after the source keeps before round t: it enters Norm in round h, and `since` counts
-- three rounds more
abbrev pub reading_over : Option ℕ → ℕ → ℕ → Reading
reading_over None h t = start
reading_over (Some v) h t = if nat_lt h t then nothing_counted mode.Norm v (min 3 (t - (h + 1))) else start
