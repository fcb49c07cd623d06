-- A customer's clock by its history alone: the slips that were ordered at the port and the rounds that ran decide what
-- it sends. A `Clock` keeps of a history just what it needs; the law `clocks_go_by_history` says that every clock goes
-- by its history. When slips are ordered, and in which round a port makes one good by a justification of the AU-4
-- pointer (ITU-T G.707 clause 8.1), are rules of this project.
use Rattle.std.specs.Prelude.{ℕ, ◌+◌, ◌-◌, ◌*◌, ℤ, pos, ◌+ℤ◌, ◌-ℤ◌, Bool, true, false, not, ◌&&◌, nat_le, if◌then◌else◌, List, [], ◌∷◌}
use Rattle.std.specs.Prelude.{length, take, count_by}
use Rattle.std.specs.List.{list_all}
use Rattle.std.specs.Int.{int_rem_euclid}
use Rattle.sdh_payload.specs.declared.chunk.ChunkForm.{ChunkForm}
use Rattle.sdh_payload.specs.declared.chunk.ChunkForm.TheVariants.{Plain, Short, Long}
use Rattle.sdh_payload.specs.declared.clock.Turn.{Turn}
use Rattle.sdh_payload.specs.declared.clock.Turn.TheVariants.{Up, Down}

-- what happens at a port: a number of slips are ordered, or a round runs
pub data Happening : Type 0 where
  told : Turn → ℕ → Happening
  went : Happening

-- A history is the list of what happened, the latest first.

-- ---- a round, by what was sent in the rounds before it, the latest first

-- whether a chunk justifies upwards, with three bytes fewer
abbrev pub justifies_up : ChunkForm → Bool
justifies_up Plain = false
justifies_up Short = true
justifies_up Long = false

-- whether a chunk justifies downwards, with three bytes more
abbrev pub justifies_down : ChunkForm → Bool
justifies_down Plain = false
justifies_down Short = false
justifies_down Long = true

-- whether a chunk justifies neither way
abbrev pub is_plain : ChunkForm → Bool
is_plain Plain = true
is_plain Short = false
is_plain Long = false

-- in round t, counted from 0, a port may justify where t is at least 4 and it justified in none of the three rounds
-- before
abbrev pub may_justify : List ChunkForm → Bool
may_justify before = nat_le 4 (length before) && list_all is_plain (take 3 before)

-- the number of pending ups, of all that were ordered: each upward justification used up one
abbrev pub ups_left : ℕ → List ChunkForm → ℕ
ups_left all before = all - count_by justifies_up before

-- the number of pending downs, of all that were ordered: each downward justification used up one
abbrev pub downs_left : ℕ → List ChunkForm → ℕ
downs_left all before = all - count_by justifies_down before

-- the form of the chunk that a port sends, where these numbers of ups and downs were ordered: it justifies where it may
-- and a slip is pending, and ups come before downs
abbrev pub form_then : List ChunkForm → ℕ → ℕ → ChunkForm
form_then before ups downs =
    if not (may_justify before) then Plain else
    if nat_le 1 (ups_left ups before) then Short else
    if nat_le 1 (downs_left downs before) then Long else Plain

-- ---- what happened so far

-- the number of ups that were ordered
abbrev pub ups_told : List Happening → ℕ
ups_told [] = 0
ups_told (told Up count ∷ earlier) = ups_told earlier + count
ups_told (told Down count ∷ earlier) = ups_told earlier
ups_told (went ∷ earlier) = ups_told earlier

-- the number of downs that were ordered
abbrev pub downs_told : List Happening → ℕ
downs_told [] = 0
downs_told (told Up count ∷ earlier) = downs_told earlier
downs_told (told Down count ∷ earlier) = downs_told earlier + count
downs_told (went ∷ earlier) = downs_told earlier

-- the form of the chunk that the port sent in each round, the latest first
abbrev pub forms : List Happening → List ChunkForm
forms [] = []
forms (told turn count ∷ earlier) = forms earlier
forms (went ∷ earlier) = form_then (forms earlier) (ups_told earlier) (downs_told earlier) ∷ forms earlier

-- the number of rounds that ran, which is also the number of the next one
abbrev pub rounds : List Happening → ℕ
rounds history = length (forms history)

-- the number of rounds in which the port justified upwards
abbrev pub ups : List Happening → ℕ
ups history = count_by justifies_up (forms history)

-- the number of rounds in which the port justified downwards
abbrev pub downs : List Happening → ℕ
downs history = count_by justifies_down (forms history)

-- the form of the chunk that was sent in the last round, and `Plain` before the first
abbrev pub last_form : List ChunkForm → ChunkForm
last_form [] = Plain
last_form (form ∷ before) = form

-- ---- the next round

-- the number of ups that wait before the next round
abbrev pub ups_waiting : List Happening → ℕ
ups_waiting history = ups_left (ups_told history) (forms history)

-- the number of downs that wait before the next round
abbrev pub downs_waiting : List Happening → ℕ
downs_waiting history = downs_left (downs_told history) (forms history)

-- the form of the chunk that is sent in the next round
abbrev pub form_now : List Happening → ChunkForm
form_now history = form_then (forms history) (ups_told history) (downs_told history)

-- the byte of the stream with which the next round begins: 2349 for each round before it, less three for each up and
-- plus three for each down
abbrev pub first_byte_now : List Happening → ℕ
first_byte_now history = 2349 * rounds history - 3 * ups history + 3 * downs history

-- the pointer value before the next round: the port's offset plus the ups less the downs, modulo 783
abbrev pub value_now : ℕ → List Happening → ℤ
value_now offset history = int_rem_euclid (pos offset +ℤ pos (ups history) -ℤ pos (downs history)) (pos 783)
