-- What holds of every watch on what a port sends.
use Rattle.std.specs.Prelude.{◌≡◌, ℕ, ◌+◌, ◌-◌, ◌*◌, ◌%◌, ◌≤◌, ◌==◌, nat_lt, if◌then◌else◌, zero, suc, List, [], ◌∷◌}
use Rattle.sdh_payload.specs.declared.clock.Turn.{Turn}
use Rattle.sdh_payload.specs.Customer.{Customer}
use Rattle.sdh_payload.specs.Clock.{Clock, new_clock, with_waiting, ticked}
use Rattle.sdh_payload.specs.Stream.{phase_of, start_of, stream_from}
use Rattle.sdh_path.specs.declared.watch.PathReport.{PathReport}
use Rattle.sdh_path.specs.declared.watch.TraceWord.TheVariants.{Ok, Short}
use Rattle.sdh_path.specs.History.{Given, Chunk}
use Rattle.sdh_path.specs.PathReports.{report_on, path_report_of}

-- the report of n chunks that arrived as they were sent
abbrev pub clean_report : ℕ → ℕ → PathReport
clean_report n value = record {
  vcs = if value == 522 then n else n - 1;
  b3 = 0;
  label = 0;
  trace = if nat_lt n 64 then Short else Ok;
}

-- from byte p of a port's stream on, VC-4s begin where this pointer value says
abbrev pub BeginsAt : ℕ → ℕ → ℕ → Type 0
BeginsAt offset p value = (p + start_of offset + phase_of value) % 2349 ≡ 0

-- n chunks of a port's stream, one after the other, show no fault to a watch that expects the port's trace
abbrev pub FeedsAreClean : Type 0
FeedsAreClean =
    (port : Customer) (p n value : ℕ) → 1 ≤ n → value ≤ 782 → BeginsAt port.offset p value
    → report_on port.trace (stream_from port p (2349 * n)) value ≡ clean_report n value

-- a number of chunks of a stream from byte p on, each with this pointer value, the latest first
abbrev pub chunks_from : Customer → ℕ → ℕ → ℕ → List Given
chunks_from port p value zero = []
chunks_from port p value (suc k) = Chunk (stream_from port (p + 2349 * k) 2349) value ∷ chunks_from port p value k

-- a watch that expects a port's trace, and was given n chunks of the port's stream, one after the other, reports no
-- fault
abbrev pub ChunksAreClean : Type 0
ChunksAreClean =
    (port : Customer) (p n value : ℕ) → 1 ≤ n → value ≤ 782 → BeginsAt port.offset p value
    → path_report_of port.trace (chunks_from port p value n) ≡ clean_report n value

-- the place in the stream that a clock has reached agrees with its pointer value, however the clock slips
pub record ClocksAreInStep : Type 0 where
  pub first : (offset : ℕ) → offset ≤ 782 → BeginsAt offset (new_clock offset).sent (new_clock offset).value
  pub told : (offset : ℕ) (turn : Turn) (count : ℕ) (c : Clock) → BeginsAt offset c.sent c.value
      → BeginsAt offset (with_waiting turn count c).sent (with_waiting turn count c).value
  pub went : (offset : ℕ) (c : Clock) → BeginsAt offset c.sent c.value → BeginsAt offset (ticked c).sent (ticked c).value
