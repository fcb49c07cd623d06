use Rattle.std.proofs.Common.{◌≡◌, ◌+◌, ◌*◌, ◌≤◌, ◌++◌, take}
use Rattle.std.specs.List.{flat_map}
use Rattle.sdh_report.specs.Reports.{told_line}
use Rattle.sdh_scripts.specs.Ports.{port_lines}
use Rattle.sdh_scripts.proofs.lines.put_ports.Given as goal

abbrev pub invariant-loop-i : goal.invariant-loop-i
invariant-loop-i g l =
    let r = g.R.ShowsPorts in
    record {
      bytes : l.text.bytes ≡ l.initial.text.bytes ++ flat_map told_line
          (port_lines (r.outlet l.ring) (take l.i (r.provisioning l.ring).circuits));
      room : l.initial.text.room ≤ l.text.room + 192 * l.i;
    }
