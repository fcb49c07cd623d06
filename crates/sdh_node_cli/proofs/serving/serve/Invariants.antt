use Rattle.std.proofs.Common.{◌≡◌, true, ◌≤◌}
use Rattle.sdh_node_cli.proofs.Runs.{Went}
use Rattle.sdh_node_cli.proofs.serving.serve.Given as goal

abbrev pub invariant-loop-done : goal.invariant-loop-done
invariant-loop-done g l = record {
  went : Went l.initial.bench l.bench (g.R.Source.left l.initial.source) (g.R.Source.left l.source) (g.W.Sink.written l.initial.sink)
      (g.W.Sink.written l.sink) l.done;
  rounds : l.bench.node.rounds ≤ l.done;
  rate : l.rooms.inbox.rate ≡ l.bench.node.settings.rate;
  reads : g.R.Source.exact ≡ true → g.R.Source.faults l.source ≡ g.R.Source.faults l.initial.source;
  writes : g.W.Sink.exact ≡ true → g.W.Sink.faults l.sink ≡ g.W.Sink.faults l.initial.sink;
  later_reads : g.R.Source.faults l.initial.source ≤ g.R.Source.faults l.source;
  later_writes : g.W.Sink.faults l.initial.sink ≤ g.W.Sink.faults l.sink;
}
