-- What the report of a settle step shows of the ring that it left.
use Rattle.std.specs.Prelude.{ℕ, ◌-◌, List, length, get_or}
use Rattle.sdh_basics.specs.Cells.{cells}
use Rattle.sdh_node.specs.Node.{Node}
use Rattle.sdh_node.specs.Rings.Held.{HeldRing, outlet_at, node_at}
use Rattle.sdh_report.specs.declared.node_line.NodeLine.{NodeLine}
use Rattle.sdh_status.specs.PortLine.{PortLine}
use Rattle.sdh_report.specs.Reports.{Report}
use Rattle.sdh_promise.specs.Owed.{PortReport}
use Rattle.sdh_report.specs.Lines.{state_word}
use Rattle.sdh_scripts.specs.Ports.{port_lines}

-- a node's identifier, its state, and the words that it sent in the last round
abbrev pub node_told : ℕ → Node → NodeLine
node_told id n = record { id = id; state = state_word n.state; west = n.west_out.word; east = n.east_out.word }

-- the line of the node at a position
abbrev pub told_at : HeldRing → ℕ → NodeLine
told_at r p = node_told (get_or r.ids p 0) (node_at r.nodes p)

abbrev pub nodes_told : HeldRing → List NodeLine
nodes_told r = cells (told_at r) (length r.ids)

abbrev pub ports_told : HeldRing → List PortLine
ports_told r = port_lines (outlet_at r) r.circuits.circuits

-- a report without the lines of its nodes
abbrev pub ports_of : Report → PortReport
ports_of r = record { number = r.number; round = r.round; ports = r.ports }

-- the report of settle step `number` that left this ring
unfoldable pub report_of : ℕ → HeldRing → Report
report_of number r = record { number = number; round = r.rounds - 1; nodes = nodes_told r; ports = ports_told r }
