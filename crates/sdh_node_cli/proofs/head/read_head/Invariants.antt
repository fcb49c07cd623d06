use Rattle.std.proofs.Common.{◌≡◌, true, ◌+◌, ◌≤◌, length}
use Rattle.std.specs.Io.KnownBytes.{Consumes}
use Rattle.sdh_node_cli.specs.Streams.{HasNoEnd}
use Rattle.sdh_node_cli.proofs.head.read_head.Given as goal

abbrev pub invariant-loop-source : goal.invariant-loop-source
invariant-loop-source g l = record {
  kept : l.text.room + length l.text.bytes ≡ l.initial.text.room;
  none : HasNoEnd l.text.bytes;
  took : Consumes (g.R.Source.left l.initial.source) (g.R.Source.left l.source) l.text.bytes;
  stays : g.R.Source.exact ≡ true → g.R.Source.faults l.source ≡ g.R.Source.faults l.initial.source;
  later : g.R.Source.faults l.initial.source ≤ g.R.Source.faults l.source;
}

abbrev pub decreases-loop-source : goal.decreases-loop-source
decreases-loop-source g l = l.text.room
