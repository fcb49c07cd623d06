-- What holds of every customer's stream.
use Rattle.std.specs.Prelude.{◌≡◌, ℕ, zero, suc, ◌+◌, ◌-◌, ◌%◌, ◌≤◌, pos, List, [], ◌∷◌, ◌++◌, ◌==◌, if◌then◌else◌, length, slice_index}
use Rattle.sdh_payload.specs.declared.chunk.ChunkForm.{ChunkForm}
use Rattle.sdh_payload.specs.Chunk.{taken, taken_len, laid_payload, laid_h3}
use Rattle.sdh_payload.specs.Customer.{Customer}
use Rattle.sdh_payload.specs.Clock.{Clock, new_clock, with_waiting, next_form, ticked, ticks}
use Rattle.sdh_payload.specs.History.{Happening, told, went, rounds, forms, last_form, ups_waiting, downs_waiting, form_now, first_byte_now}
use Rattle.sdh_payload.specs.History.{value_now}
use Rattle.sdh_payload.specs.Stream.{padded, phase_of, stream_from, chunk_of}

-- what is sent in the next n rounds of a clock, one after the other
unfoldable pub sent_in_rounds : Customer → Clock → ℕ → List ℕ
sent_in_rounds port c zero = []
sent_in_rounds port c (suc n) = (let now = ticks n c in sent_in_rounds port c n ++ stream_from port now.sent (taken_len (next_form now)))

-- chunks follow each other without a gap, however the clock slips: together they are the stream
abbrev pub ChunksAreTheStream : Type 0
ChunksAreTheStream =
    (port : Customer) (c : Clock) (n : ℕ) → sent_in_rounds port c n ≡ stream_from port c.sent (length (sent_in_rounds port c n))

-- what is laid out in an AU-4 is what a port takes from it at the same justification
abbrev pub WhatIsLaidIsTaken : Type 0
WhatIsLaidIsTaken =
    (form : ChunkForm) (bytes : List ℕ) → length bytes ≡ taken_len form → taken form (laid_payload form bytes) (laid_h3 form bytes) ≡ bytes

-- the number of the VC-4 that begins in chunk j: j where the stream begins with a whole VC-4, and otherwise j + 1
abbrev pub begun_in : Customer → ℕ → ℕ
begun_in port j = if phase_of port.offset == 0 then j else j + 1

-- in each chunk of a clock that never slipped a VC-4 begins, with J1, at the payload index that the offset gives (ITU-T
-- G.707 clause 8.1)
abbrev pub BeginsAtTheOffset : Type 0
BeginsAtTheOffset =
    (port : Customer) (j : ℕ) → slice_index (chunk_of port j) (phase_of port.offset)
    ≡ slice_index (padded port.trace) (begun_in port j % 64)

-- ---- clocks and their histories

-- the clock of a port with this offset, after what happened; its steps are those of the port's feed: `Feed::new`,
-- `wait`, and `next_form` or `next`
abbrev pub clock_by : ℕ → List Happening → Clock
clock_by offset [] = new_clock offset
clock_by offset (told turn count ∷ earlier) = with_waiting turn count (clock_by offset earlier)
clock_by offset (went ∷ earlier) = ticked (clock_by offset earlier)

-- A clock shows what its history says. That is the number of rounds, the slips that wait, the forms of the chunks sent
-- in the last round and in the next, the byte of the stream with which the next round begins, and the pointer value.
pub record GoesBy (offset : ℕ) (history : List Happening) (c : Clock) : Type 0 where
  pub rounds_are : c.rounds ≡ rounds history
  pub ups_wait : c.ups ≡ ups_waiting history
  pub downs_wait : c.downs ≡ downs_waiting history
  pub last : c.form ≡ last_form (forms history)
  pub next : next_form c ≡ form_now history
  pub begins : c.sent ≡ first_byte_now history
  pub value_is : pos c.value ≡ value_now offset history

-- every clock goes by its history
abbrev pub ClocksGoByHistory : Type 0
ClocksGoByHistory = (offset : ℕ) (history : List Happening) → offset ≤ 782 → GoesBy offset history (clock_by offset history)

-- in each round a port sends the bytes of its stream from the first byte of this round up to, but not including, the
-- first byte of the next round
abbrev pub RoundsFollowEachOther : Type 0
RoundsFollowEachOther =
    (port : Customer) (history : List Happening) →
    (let c = clock_by port.offset history in stream_from port c.sent (taken_len (next_form c))
    ≡ stream_from port (first_byte_now history) (first_byte_now (went ∷ history) - first_byte_now history))
