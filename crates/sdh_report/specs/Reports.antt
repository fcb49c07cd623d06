-- What a settle step reports, and the text of reports. Their form is this project's own.
use Rattle.std.specs.Prelude.{ℕ, ◌+◌, List, [], ◌∷◌, ◌++◌, slice_index_or}
use Rattle.std.specs.List.{flat_map}
use Rattle.sdh_circuits.specs.declared.End.{End}
use Rattle.sdh_circuits.specs.declared.End.TheVariants.{A}
use Rattle.sdh_circuits.specs.declared.PortId.{PortId}
use Rattle.sdh_circuits.specs.Ends.{port_number}
use Rattle.sdh_payload.specs.declared.delivered.Delivered.{Delivered}
use Rattle.sdh_payload.specs.declared.delivered.Delivered.TheVariants.{Ais, Chunk}
use Rattle.sdh_payload.specs.Outlet.{silent}
use Rattle.sdh_status.specs.PortLine.{PortLine}
use Rattle.sdh_report.specs.declared.node_line.NodeLine.{NodeLine}
use Rattle.sdh_report.specs.declared.listing.Listing.{Listing}
use Rattle.sdh_report.specs.declared.listing.Listing.TheVariants as listing
use Rattle.sdh_report.specs.Lines.{settle_line, node_line, port_line, drop_lines, count_line}

-- ---- what is reported

-- a report: the settle step, counted from 1; its last round; the line of each node by position; and that of each port
-- in the order of the circuits, a before b
pub record Report : Type 0 where
  pub number : ℕ
  pub round : ℕ
  pub nodes : List NodeLine
  pub ports : List PortLine

-- ---- its text

-- the line of a port in a report
abbrev pub told_line : PortLine → List ℕ
told_line p = port_line p.name p.end p.outlet.delivered p.outlet.value

-- the whole report
abbrev pub report_text : Report → List ℕ
report_text r = settle_line r.number r.round ++ flat_map node_line r.nodes ++ flat_map told_line r.ports

-- what a port delivered, by the lines of all ports
abbrev pub delivered_in : List PortLine → PortId → Delivered
delivered_in ports port = (slice_index_or ports (port_number port) (record { name = []; end = A; outlet = silent })).outlet.delivered

-- 1 where a chunk was delivered, and 0 for AIS
abbrev pub chunks_of : Delivered → ℕ
chunks_of Ais = 0
chunks_of (Chunk chunk) = 1

-- 1 where AIS was delivered, and 0 for a chunk
abbrev pub silences_of : Delivered → ℕ
silences_of Ais = 1
silences_of (Chunk chunk) = 0

-- the number of these ports that delivered a chunk
abbrev pub chunks_in : List PortLine → ℕ
chunks_in [] = 0
chunks_in (p ∷ ports) = chunks_of p.outlet.delivered + chunks_in ports

-- the number of these ports that delivered AIS
abbrev pub silences_in : List PortLine → ℕ
silences_in [] = 0
silences_in (p ∷ ports) = silences_of p.outlet.delivered + silences_in ports

-- what is listed of a report
abbrev pub listed : Listing → Report → List ℕ
listed listing.Reports r = report_text r
listed (listing.Port port) r = drop_lines (delivered_in r.ports port)
listed listing.Counts r = count_line r.number r.round (chunks_in r.ports) (silences_in r.ports)

-- the text of reports, one after the other
abbrev pub text_of : Listing → List Report → List ℕ
text_of l reports = flat_map (listed l) reports
