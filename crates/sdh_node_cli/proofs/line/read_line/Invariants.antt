use Rattle.std.proofs.Common.{◌≡◌, true, ◌≤◌}
use Rattle.std.specs.Io.KnownBytes.{Consumes}
use Rattle.sdh_node_cli.specs.Lines.{IsOneLine}
use Rattle.sdh_report.specs.Written.{room_in}
use Rattle.sdh_node_cli.proofs.line.read_line.Given as goal

abbrev pub invariant-loop-source : goal.invariant-loop-source
invariant-loop-source g l = record {
  kept : room_in l.line ≡ 65;
  one : IsOneLine l.line.bytes;
  took : Consumes (g.R.Source.left l.initial.source) (g.R.Source.left l.source) l.line.bytes;
  stays : g.R.Source.exact ≡ true → g.R.Source.faults l.source ≡ g.R.Source.faults l.initial.source;
  later : g.R.Source.faults l.initial.source ≤ g.R.Source.faults l.source;
}

abbrev pub decreases-loop-source : goal.decreases-loop-source
decreases-loop-source g l = l.line.room
