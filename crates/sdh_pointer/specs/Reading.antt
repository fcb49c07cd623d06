-- The pointer interpreter, after ITU-T G.783: the event of a word, and the table of modes and events. The table is
-- this project's own.
use Rattle.std.specs.Prelude.{◌≡◌, ℕ, ◌+◌, Bool, true, false, ◌&&◌, ◌||◌, not, nat_le, ◌==◌, if◌then◌else◌, min, ◌≤◌, List, [], ◌∷◌, Option}
use Rattle.std.specs.List.{find}
use Rattle.std.specs.Option.{option_map_or}
use Rattle.sdh_pointer.specs.declared.reading.Reading.{Reading}
use Rattle.sdh_pointer.specs.declared.reading.Mode.{Mode}
use Rattle.sdh_pointer.specs.declared.reading.Mode.TheVariants as mode
use Rattle.sdh_pointer.specs.declared.reading.Event.{Event}
use Rattle.sdh_pointer.specs.declared.reading.Event.TheVariants as event
use Rattle.sdh_pointer.specs.declared.reading.Action.{Action}
use Rattle.sdh_pointer.specs.declared.reading.Action.TheVariants as action
use Rattle.sdh_pointer.specs.Words.{differing, i_bits, d_bits, is_normal, is_enabled, value_in, one_up, one_down}

-- ---- events

abbrev pub is_norm : Mode → Bool
is_norm mode.Norm = true
is_norm mode.Ais = false
is_norm mode.Lop = false

-- at least three I bits and at most two D bits of a value differ from the kept one
unfoldable pub goes_up : ℕ → ℕ → Bool
goes_up v kept = nat_le 3 (differing i_bits v kept) && nat_le (differing d_bits v kept) 2

-- at least three D bits and at most two I bits of a value differ from the kept one
unfoldable pub goes_down : ℕ → ℕ → Bool
goes_down v kept = nat_le 3 (differing d_bits v kept) && nat_le (differing i_bits v kept) 2

-- the event of a normal word with value v. A justification is read in Norm alone, and only where at least three steps
-- lie between it and the last new data flag or justification, or the entry into Norm.
unfoldable pub normal_event : Reading → ℕ → Event
normal_event r v =
    if is_norm r.mode && (v == r.value) then event.Same else
    if is_norm r.mode && nat_le 3 r.since && goes_up v r.value then event.Up else
    if is_norm r.mode && nat_le 3 r.since && goes_down v r.value then event.Down else
    if nat_le v 782 then event.New v else event.Bad

-- the event of a word: the first of these cases that applies
unfoldable pub event_of : Reading → ℕ → Event
event_of r w =
    if w == 0xFFFF then event.Ais else
    if is_enabled w then (if nat_le (value_in w) 782 then event.Ndf (value_in w) else event.Bad) else
    if is_normal w then normal_event r (value_in w) else event.Bad

-- the value that an event brings
abbrev pub event_value : Event → ℕ
event_value (event.Ndf v) = v
event_value (event.New v) = v
event_value event.Ais = 0
event_value event.Bad = 0
event_value event.Same = 0
event_value event.Up = 0
event_value event.Down = 0

-- ---- counts

-- an interpreter that has read nothing
abbrev pub start : Reading
start = record { mode = mode.Ais; value = 0; ais = 0; bad = 0; candidate = 0; news = 0; since = 0 }

-- `since` one step later: it counts, up to 3, the steps in Norm after the last new data flag or justification, or after
-- Norm was entered
abbrev pub later : ℕ → ℕ
later since = min 3 (since + 1)

-- nothing is counted
abbrev pub nothing_counted : Mode → ℕ → ℕ → Reading
nothing_counted m v since = record { mode = m; value = v; ais = 0; bad = 0; candidate = 0; news = 0; since = since }

-- one AIS word more in a row, one invalid word more, one equal new value more
abbrev pub with_ais : Reading → ℕ → Reading
with_ais r since = record { mode = r.mode; value = r.value; ais = r.ais + 1; bad = 0; candidate = 0; news = 0; since = since }

abbrev pub with_bad : Reading → ℕ → Reading
with_bad r since = record { mode = r.mode; value = r.value; ais = 0; bad = r.bad + 1; candidate = 0; news = 0; since = since }

-- the number of equal new values in a row, this one included
abbrev pub news_with : Reading → ℕ → ℕ
news_with r v = if (0 == r.news) || not (r.candidate == v) then 1 else r.news + 1

abbrev pub with_new : Reading → ℕ → ℕ → Reading
with_new r v since = record { mode = r.mode; value = r.value; ais = 0; bad = 0; candidate = v; news = news_with r v; since = since }

-- the number of events of this kind in a row, this one included; 1 for a kind that is not counted
abbrev pub in_a_row : Reading → Event → ℕ
in_a_row r event.Ais = r.ais + 1
in_a_row r event.Bad = r.bad + 1
in_a_row r (event.New v) = news_with r v
in_a_row r event.Same = 1
in_a_row r event.Up = 1
in_a_row r event.Down = 1
in_a_row r (event.Ndf v) = 1

-- an event is counted, and the counts of the other kinds begin anew. Same, Up, Down and Ndf are taken at once.
abbrev pub counted : Reading → Event → ℕ → Reading
counted r event.Ais since = with_ais r since
counted r event.Bad since = with_bad r since
counted r (event.New v) since = with_new r v since
counted r event.Same since = nothing_counted r.mode r.value since
counted r event.Up since = nothing_counted r.mode r.value since
counted r event.Down since = nothing_counted r.mode r.value since
counted r (event.Ndf v) since = nothing_counted r.mode r.value since

-- `since` where an event is only counted: it grows in Norm, and is 0 elsewhere
abbrev pub since_in : Mode → ℕ → ℕ
since_in mode.Norm since = later since
since_in mode.Ais since = 0
since_in mode.Lop since = 0

-- the action where an event is only counted
abbrev pub action_while : Mode → Action
action_while mode.Norm = action.Normal
action_while mode.Ais = action.Ais
action_while mode.Lop = action.Ais

-- ---- the table

-- A row: in this mode, `needed` events of this kind in a row lead to the next mode with this value and this `since`,
-- and have this action. Fewer are counted.
pub record ReadingRow : Type 0 where
  pub mode : Mode
  pub event : Event → Bool
  pub needed : ℕ
  pub next : Mode
  pub value : Reading → Event → ℕ
  pub since : Reading → ℕ
  pub action : Action

abbrev pub reading_row : Mode → (Event → Bool) → ℕ → Mode → (Reading → Event → ℕ) → (Reading → ℕ) → Action → ReadingRow
reading_row m e count next v s a = record { mode = m; event = e; needed = count; next = next; value = v; since = s; action = a }

-- the kinds of events
abbrev pub is_same : Event → Bool
is_same event.Same = true
is_same _ = false

abbrev pub is_ndf : Event → Bool
is_ndf (event.Ndf v) = true
is_ndf _ = false

abbrev pub is_up : Event → Bool
is_up event.Up = true
is_up _ = false

abbrev pub is_down : Event → Bool
is_down event.Down = true
is_down _ = false

abbrev pub is_new : Event → Bool
is_new (event.New v) = true
is_new _ = false

abbrev pub is_ais : Event → Bool
is_ais event.Ais = true
is_ais _ = false

abbrev pub is_bad : Event → Bool
is_bad event.Bad = true
is_bad _ = false

-- the value that a row gives: the one kept, that of the event, one more, one less
abbrev pub kept : Reading → Event → ℕ
kept r e = r.value

abbrev pub brought : Reading → Event → ℕ
brought r e = event_value e

abbrev pub raised : Reading → Event → ℕ
raised r e = one_up r.value

abbrev pub lowered : Reading → Event → ℕ
lowered r e = one_down r.value

-- the `since` that a row gives
abbrev pub grows : Reading → ℕ
grows r = later r.since

abbrev pub anew : Reading → ℕ
anew r = 0

-- the rows. Same, Up and Down come in Norm alone.
unfoldable pub reading_table : List ReadingRow
reading_table =
    reading_row mode.Norm is_same 1 mode.Norm kept grows action.Normal
    ∷ reading_row mode.Norm is_ndf 1 mode.Norm brought anew action.New
    ∷ reading_row mode.Norm is_up 1 mode.Norm raised anew action.Up
    ∷ reading_row mode.Norm is_down 1 mode.Norm lowered anew action.Down
    ∷ reading_row mode.Norm is_new 3 mode.Norm brought grows action.New
    ∷ reading_row mode.Norm is_ais 3 mode.Ais kept anew action.Ais
    ∷ reading_row mode.Norm is_bad 8 mode.Lop kept anew action.Ais
    ∷ reading_row mode.Ais is_ais 1 mode.Ais kept anew action.Ais
    ∷ reading_row mode.Ais is_ndf 1 mode.Norm brought anew action.New
    ∷ reading_row mode.Ais is_new 3 mode.Norm brought anew action.New
    ∷ reading_row mode.Ais is_bad 8 mode.Lop kept anew action.Ais
    ∷ reading_row mode.Lop is_ais 3 mode.Ais kept anew action.Ais
    ∷ reading_row mode.Lop is_new 3 mode.Norm brought anew action.New
    ∷ reading_row mode.Lop is_ndf 1 mode.Lop kept anew action.Ais
    ∷ reading_row mode.Lop is_bad 1 mode.Lop kept anew action.Ais
    ∷ []

abbrev pub same_mode : Mode → Mode → Bool
same_mode mode.Norm mode.Norm = true
same_mode mode.Norm mode.Ais = false
same_mode mode.Norm mode.Lop = false
same_mode mode.Ais mode.Norm = false
same_mode mode.Ais mode.Ais = true
same_mode mode.Ais mode.Lop = false
same_mode mode.Lop mode.Norm = false
same_mode mode.Lop mode.Ais = false
same_mode mode.Lop mode.Lop = true

-- whether a row is the one of a mode and an event
abbrev pub is_row_of : Mode → Event → ReadingRow → Bool
is_row_of m e row = same_mode row.mode m && row.event e

unfoldable pub reading_row_of : Mode → Event → Option ReadingRow
reading_row_of m e = find (is_row_of m e) reading_table

-- what is kept after an event by a row, and the action
abbrev pub after_row : ReadingRow → Reading → Event → Reading
after_row row r e =
    if nat_le row.needed (in_a_row r e) then nothing_counted row.next (row.value r e) (row.since r) else counted r e (since_in row.mode r.since)

abbrev pub action_row : ReadingRow → Reading → Event → Action
action_row row r e = if nat_le row.needed (in_a_row r e) then row.action else action_while row.mode

-- ---- a step

-- what is kept after an event in a mode, and the action
unfoldable pub after_in : Mode → Event → Reading → Reading
after_in m e r = option_map_or (λ row. after_row row r e) (reading_row_of m e) r

unfoldable pub action_in : Mode → Event → Reading → Action
action_in m e r = option_map_or (λ row. action_row row r e) (reading_row_of m e) action.Ais

unfoldable pub after_event : Reading → Event → Reading
after_event r e = after_in r.mode e r

unfoldable pub action_on_event : Reading → Event → Action
action_on_event r e = action_in r.mode e r

-- what a reading is after a word, and the action that the word gives
unfoldable pub after_word : Reading → ℕ → Reading
after_word r w = after_event r (event_of r w)

unfoldable pub action_on : Reading → ℕ → Action
action_on r w = action_on_event r (event_of r w)

-- whether the mode, the value, the counts, the candidate and `since` are the same
unfoldable pub same_reading : Reading → Reading → Bool
same_reading a b =
    same_mode a.mode b.mode && (a.value == b.value) && (a.ais == b.ais) && (a.bad == b.bad) && (a.candidate == b.candidate)
    && (a.news == b.news) && (a.since == b.since)

-- an interpreter: what it keeps, and whether the last step changed it
pub record Interpreter : Type 0 where
  pub reading : Reading
  pub moved : Bool

unfoldable pub after_step : Interpreter → ℕ → Interpreter
after_step i w = record { reading = after_word i.reading w; moved = not (same_reading (after_word i.reading w) i.reading) }

-- the bounds of what is kept. Where no new value is counted the candidate is 0.
pub record IsBounded (r : Reading) : Type 0 where
  pub value : r.value ≤ 782
  pub ais : r.ais ≤ 2
  pub bad : r.bad ≤ 7
  pub candidate : r.candidate ≤ 782
  pub uncounted : r.news ≡ 0 → r.candidate ≡ 0
  pub news : r.news ≤ 2
  pub since : r.since ≤ 3
