-- The lines of a settle step with the outages of its ports.
use Rattle.std.specs.Prelude.{ℕ, ◌-◌, ◌==◌, if◌then◌else◌, List, [], ◌++◌, map, take, length, slice_get, Option, Some, None}
use Rattle.std.specs.List.{flat_map}
use Rattle.sdh_circuits.specs.declared.End.{End}
use Rattle.sdh_circuits.specs.declared.PortId.{PortId}
use Rattle.sdh_circuits.specs.Provisioned.{Provisioned}
use Rattle.sdh_report.specs.Lines.{settle_line}
use Rattle.sdh_outage.specs.declared.change.Change.{Change}
use Rattle.sdh_outage.specs.Lines.{outage_front, of_port, of_nobody, change_line, more_line, summary_line}
use Rattle.sdh_outage.specs.Outages.{summary_of}
use Rattle.sdh_outage_cli.specs.Outages.{PortOutage, PortTrace, Outaged}
use Rattle.sdh_outage_cli.specs.declared.listing.OutageListing.{OutageListing}
use Rattle.sdh_outage_cli.specs.declared.listing.OutageListing.TheVariants as listing

-- the text that says whose bytes came: those of the port at this end of the circuit, or nobody's where there is none
abbrev pub named_of : Option Provisioned → End → List ℕ
named_of None end = of_nobody
named_of (Some c) end = of_port c.name end

abbrev pub whose_text : List Provisioned → Option PortId → List ℕ
whose_text circuits None = of_nobody
whose_text circuits (Some port) = named_of (slice_get circuits port.circuit) port.end

abbrev pub told_line : List Provisioned → PortOutage → List ℕ
told_line circuits p = outage_front p.name p.end p.outage ++ whose_text circuits p.outage.whose

-- ---- all ports

-- the lines of ports, and what is said of all of them
abbrev pub ports_text : List Provisioned → List PortOutage → List ℕ
ports_text circuits ports = flat_map (told_line circuits) ports ++ summary_line (summary_of (map (λ p. p.outage) ports))

-- the line of the settle step of this number, which ended with that round, and those of its ports
abbrev pub settle_step_text : ℕ → ℕ → List Provisioned → List PortOutage → List ℕ
settle_step_text number round circuits ports = settle_line number round ++ ports_text circuits ports

-- ---- one port

-- the lines of these changes, and where there are more, how many came after them
abbrev pub outage_changes_text : List Change → ℕ → List ℕ
outage_changes_text changes more = flat_map change_line changes ++ (if more == 0 then [] else more_line more)

-- the lines of what a port went through, with at most 64 changes
abbrev pub trace_text : List Provisioned → Option PortTrace → List ℕ
trace_text circuits None = []
trace_text circuits (Some t) = outage_changes_text (take 64 t.changes) (length t.changes - 64) ++ told_line circuits t.out

-- ---- what is listed

-- the lines of a settle step
abbrev pub outages_listed : OutageListing → Outaged → List ℕ
outages_listed listing.Ports r = settle_step_text r.number r.round r.circuits r.ports
outages_listed (listing.Trace port) r = settle_line r.number r.round ++ trace_text r.circuits (r.trace port)

-- the lines of all settle steps, in their order
abbrev pub text_of : OutageListing → List Outaged → List ℕ
text_of listing reports = flat_map (outages_listed listing) reports
