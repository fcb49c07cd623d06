-- What the report of a settle step shows of the path ring that it left. No node has a line in it.
use Rattle.std.specs.Prelude.{ℕ, ◌-◌, List, []}
use Rattle.sdh_status.specs.PortLine.{PortLine}
use Rattle.sdh_report.specs.Reports.{Report}
use Rattle.sdh_scripts.specs.Ports.{port_lines}
use Rattle.sdh_sncp.specs.Ring.{HeldPath, outlet_at}

abbrev pub ports_told : HeldPath → List PortLine
ports_told r = port_lines (outlet_at r) r.circuits.circuits

-- the report of settle step `number` that left this ring
unfoldable pub path_ring_report : ℕ → HeldPath → Report
path_ring_report number r = record { number = number; round = r.rounds - 1; nodes = []; ports = ports_told r }
