-- The room that lines need.
use Rattle.std.proofs.Common.{ℕ, ◌≤◌, arith}
use Rattle.sdh_outage_cli.specs.Running.{outage_lines_room}
use Rattle.sdh_outage_cli.specs.declared.listing.OutageListing.{OutageListing}
use Rattle.sdh_outage_cli.specs.declared.listing.OutageListing.TheVariants as listing

-- a settle step's own line has room, whatever is listed
pub own_fits : (listing : OutageListing) (circuits : ℕ) → 96 ≤ outage_lines_room listing circuits
own_fits listing.Ports circuits = omega arith
own_fits (listing.Trace port) circuits = omega arith
