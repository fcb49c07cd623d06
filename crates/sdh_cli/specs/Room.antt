-- The room that reports need.
use Rattle.std.specs.Prelude.{ℕ, ◌+◌, ◌*◌, ◌<◌}
use Rattle.sdh_report.specs.declared.listing.Listing.{Listing}
use Rattle.sdh_report.specs.declared.listing.Listing.TheVariants as listing

-- the port that is listed is one of `circuits` circuits
abbrev pub MayList : ℕ → Listing → Type 0
MayList circuits listing.Reports = Unit {0}
MayList circuits (listing.Port port) = port.circuit < circuits
MayList circuits listing.Counts = Unit {0}

-- room enough for what is listed of a report, in a ring of n with `circuits` circuits: 96 bytes a line, and 4,707 for a
-- chunk
abbrev pub report_room : Listing → ℕ → ℕ → ℕ
report_room listing.Reports n circuits = 96 + 96 * n + 192 * circuits
report_room (listing.Port port) n circuits = 4707
report_room listing.Counts n circuits = 96
