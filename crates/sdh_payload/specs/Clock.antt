-- A customer's clock, which may run fast or slow against the ring's: its port then justifies the AU-4 pointer (ITU-T
-- G.707 clause 8.1). When a clock slips, and when its port justifies, are rules of this project. Here a clock is a few
-- numbers that each round changes. `History` states the same rules by what happened alone; the law
-- `clocks_go_by_history` says that every clock goes by them.
use Rattle.std.specs.Prelude.{◌≡◌, ℕ, zero, suc, ◌+◌, ◌-◌, ◌*◌, ◌%◌, ◌≤◌, nat_le, if◌then◌else◌}
use Rattle.sdh_payload.specs.declared.chunk.ChunkForm.{ChunkForm}
use Rattle.sdh_payload.specs.declared.chunk.ChunkForm.TheVariants.{Plain, Short, Long}
use Rattle.sdh_payload.specs.declared.clock.Turn.{Turn}
use Rattle.sdh_payload.specs.declared.clock.Turn.TheVariants.{Up, Down}
use Rattle.sdh_payload.specs.Chunk.{taken_len}

pub record Clock : Type 0 where
  -- the number of rounds that it has run
  pub rounds : ℕ
  -- the numbers of slips that wait: ups, each for a positive justification with three bytes fewer in its round, and
  -- downs, each for a negative one with three more
  pub ups : ℕ
  pub downs : ℕ
  -- the number of rounds to come before one that may justify: at first four, and three after each justification
  pub rest : ℕ
  -- the number of bytes of the stream that it has sent
  pub sent : ℕ
  -- the pointer value, which counts steps of three bytes
  pub value : ℕ
  -- the form of what it sent in the last round, and `Plain` before the first
  pub form : ChunkForm

-- the clock of a port with this offset, before round 0
abbrev pub new_clock : ℕ → Clock
new_clock offset = record { rounds = 0; ups = 0; downs = 0; rest = 4; sent = 0; value = offset; form = Plain }

-- what is true of every clock of a port with this offset, after this number of rounds
pub record IsClock (offset rounds : ℕ) (c : Clock) : Type 0 where
  pub rounds_are : c.rounds ≡ rounds
  pub rest_few : c.rest ≤ 4
  pub value_small : offset ≤ 782 → c.value ≤ 782

-- ---- between rounds

-- the number of all slips that wait
abbrev pub waiting : Clock → ℕ
waiting c = c.ups + c.downs

-- a clock with `count` more pending slips
abbrev pub with_waiting : Turn → ℕ → Clock → Clock
with_waiting Up count c = record c { ups = c.ups + count }
with_waiting Down count c = record c { downs = c.downs + count }

-- ---- a round

-- the form of what is sent in the next round: it uses up one slip where one waits and the round may justify, ups before
-- downs
abbrev pub next_form : Clock → ChunkForm
next_form c =
    if nat_le 1 c.rest then Plain else
    if nat_le 1 c.ups then Short else
    if nat_le 1 c.downs then Long else Plain

-- a clock after a round in which a chunk of this form was sent; modulo 783 adding 782 is taking away 1
abbrev pub after_form : ChunkForm → Clock → Clock
after_form Plain c = record c { rounds = c.rounds + 1; rest = c.rest - 1; sent = c.sent + 2349; form = Plain }
after_form Short c =
    record c { rounds = c.rounds + 1; ups = c.ups - 1; rest = 3; sent = c.sent + 2346; value = (c.value + 1) % 783; form = Short }
after_form Long c =
    record c { rounds = c.rounds + 1; downs = c.downs - 1; rest = 3; sent = c.sent + 2352; value = (c.value + 782) % 783; form = Long }

-- a clock after the next round
unfoldable pub ticked : Clock → Clock
ticked c = after_form (next_form c) c

-- a clock after k rounds
unfoldable pub ticks : ℕ → Clock → Clock
ticks zero c = c
ticks (suc k) c = ticked (ticks k c)

-- the place in the stream at which the bytes of the last round begin
abbrev pub last_from : Clock → ℕ
last_from c = c.sent - taken_len c.form

-- what is true of every clock: its value is one of a pointer, at most 16 slips wait, and it sent at most 2352 bytes a
-- round
pub record IsKept (c : Clock) : Type 0 where
  pub value_small : c.value ≤ 782
  pub rest_few : c.rest ≤ 4
  pub few : waiting c ≤ 16
  pub sent_few : c.sent ≤ 2352 * c.rounds
