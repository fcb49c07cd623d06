-- What is listed of how a ring signals.
use Rattle.std.specs.Prelude.{ℕ, ◌-◌, ◌==◌, Bool, true, if◌then◌else◌, List, [], ◌++◌}
use Rattle.std.specs.List.{flat_map}
use Rattle.sdh_report.specs.Lines.{settle_line}
use Rattle.sdh_aps.specs.Lines.{signal_line}
use Rattle.sdh_aps_cli.specs.Frames.{frames_bytes}
use Rattle.sdh_aps_cli.specs.Signalled.{ShownChange, Signalled}
use Rattle.sdh_aps_cli.specs.declared.listing.SignalListing.{SignalListing}
use Rattle.sdh_aps_cli.specs.declared.listing.SignalListing.TheVariants as lines
use Rattle.sdh_aps_cli.specs.declared.listing.PlanListing.{PlanListing}
use Rattle.sdh_aps_cli.specs.declared.listing.PlanListing.TheVariants as listing

-- the lines of the node of this identifier are listed
abbrev pub lists : SignalListing → ℕ → Bool
lists lines.All id = true
lists (lines.Node one) id = one == id

-- the line of a change, where it is listed
abbrev pub change_text : SignalListing → ShownChange → List ℕ
change_text listing c = if lists listing c.id then signal_line c.round c.id c.shown else []

-- the lines of changes
abbrev pub changes_text : SignalListing → List ShownChange → List ℕ
changes_text listing changes = flat_map (change_text listing) changes

-- ---- lines

-- the lines of the rounds of a settle step, while they run
abbrev pub begun_text : SignalListing → Signalled → List ℕ
begun_text listing s = changes_text listing s.changes

-- the lines of a settle step that ended
abbrev pub ended_text : SignalListing → Signalled → List ℕ
ended_text listing s = begun_text listing s ++ settle_line s.number (s.rounds - 1)

-- ---- lines or frames

-- what is written of the rounds of a settle step, while they run
abbrev pub begun_of : PlanListing → Signalled → List ℕ
begun_of (listing.Lines l) s = begun_text l s
begun_of (listing.Frames ask) s = frames_bytes ask s.sent

-- what is written of a settle step that ended: its lines and one at its end, or its frames and nothing at its end
abbrev pub ended_of : PlanListing → Signalled → List ℕ
ended_of (listing.Lines l) s = ended_text l s
ended_of (listing.Frames ask) s = frames_bytes ask s.sent
