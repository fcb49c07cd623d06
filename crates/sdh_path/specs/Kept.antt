-- What a watch keeps of what it was given, which is enough for its report.
use Rattle.std.specs.Prelude.{◌≡◌, ℕ, ◌+◌, ◌-◌, ◌*◌, ◌%◌, ◌<◌, ◌≤◌, List, length, drop, slice_index}
use Rattle.sdh_basics.specs.Parity.{bip8}
use Rattle.sdh_payload.specs.Stream.{padded, phase_of}
use Rattle.sdh_path.specs.declared.tally.Tally.{Tally}
use Rattle.sdh_path.specs.History.{Given, bytes_of, count_of, given_value}
use Rattle.sdh_path.specs.PathReports.{b3, c2, vc4_in, b3_violations, label_violations}

-- ---- a run of bytes that begins with a VC-4

-- What is kept of a run of bytes that begins with a VC-4: the counts over its whole VC-4s, and the parity of the last
-- one. Of the bytes after that one their number and their parity are kept, and B3 and C2 where these have come.
pub record IsTallyOf (run : List ℕ) (t : Tally) : Type 0 where
  pub long : length run ≡ 2349 * t.vcs + t.index
  pub within : t.index ≤ 2349
  pub b3_is : t.b3 ≡ b3_violations run 0 t.vcs
  pub label_is : t.label ≡ label_violations run 0 t.vcs
  pub due_is : 0 < t.vcs → t.due ≡ bip8 (vc4_in run 0 (t.vcs - 1))
  pub parity_is : t.parity ≡ bip8 (drop (2349 * t.vcs) run)
  pub b3_byte_is : t.b3_byte ≡ b3 (drop (2349 * t.vcs) run)
  pub label_byte_is : t.label_byte ≡ c2 (drop (2349 * t.vcs) run)

-- the counts are no larger than the number of VC-4s allows, and the unfinished VC-4 isn't whole
pub record IsSmall (t : Tally) : Type 0 where
  pub b3_few : t.b3 ≤ 8 * t.vcs
  pub label_few : t.label ≤ t.vcs
  pub inside : t.index < 2349

-- ---- a watch

pub record Kept : Type 0 where
  -- the trace that is expected, with its padding
  pub trace : List ℕ
  -- the pointer value of the last chunk, and how many chunks came since the watch began anew
  pub value : ℕ
  pub chunks : ℕ
  -- what is kept of the bytes of these chunks, from the first VC-4 on
  pub tally : Tally
  -- the bytes J1 of the last 64 chunks, that of chunk i at place i modulo 64
  pub last : List ℕ

-- what is true of every watch
pub record IsKept (k : Kept) : Type 0 where
  pub trace_whole : length k.trace ≡ 64
  pub last_whole : length k.last ≡ 64
  pub value_small : k.value ≤ 782
  pub few : k.chunks ≤ 1000000
  pub small : IsSmall k.tally
  pub vcs_few : k.tally.vcs ≤ k.chunks
  pub begins : k.chunks ≡ 0 → k.tally.index ≡ 0
  pub goes : 0 < k.chunks → k.tally.index ≡ (2349 - phase_of k.value) % 2349

-- a watch that expects this trace keeps this after it was given `past`
pub record CameBy (trace : List ℕ) (past : List Given) (k : Kept) : Type 0 where
  pub trace_is : k.trace ≡ padded trace
  pub value_is : k.value ≡ given_value past
  pub chunks_are : k.chunks ≡ count_of past
  pub long : length (bytes_of past) ≡ 2349 * count_of past
  pub counts : IsTallyOf (drop (phase_of (given_value past)) (bytes_of past)) k.tally
  pub last_are : (i : ℕ) → i < count_of past → count_of past ≤ i + 64
      → slice_index k.last (i % 64) ≡ slice_index (bytes_of past) (phase_of (given_value past) + 2349 * i)
