use Rattle.std.proofs.Common.{◌≡◌, ◌*◌, ◌≤◌, take}
use Rattle.sdh_report.specs.Reports.{chunks_in}
use Rattle.sdh_scripts.specs.Ports.{port_lines}
use Rattle.sdh_node.specs.Rings.Held.{outlet_at}
use Rattle.sdh_cli.proofs.reports.chunks_in.Given as goal

abbrev pub invariant-loop-i : goal.invariant-loop-i
invariant-loop-i l = record {
  counted : l.count ≡ chunks_in (port_lines (outlet_at l.ring) (take l.i l.ring.circuits.circuits));
  few : l.count ≤ 2 * l.i;
}
