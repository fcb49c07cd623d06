use Rattle.std.proofs.Common.{◌≡◌, ◌+◌, ◌*◌, ◌≤◌, ◌++◌}
use Rattle.std.specs.List.{flat_map}
use Rattle.sdh_basics.specs.Cells.{cells}
use Rattle.sdh_report.specs.Lines.{node_line}
use Rattle.sdh_owed.specs.Reports.{told_at}
use Rattle.sdh_cli.proofs.reports.put_nodes.Given as goal

abbrev pub invariant-loop-i : goal.invariant-loop-i
invariant-loop-i l = record {
  bytes : l.text.bytes ≡ l.initial.text.bytes ++ flat_map node_line (cells (told_at l.ring) l.i);
  room : l.initial.text.room ≤ l.text.room + 96 * l.i;
}
