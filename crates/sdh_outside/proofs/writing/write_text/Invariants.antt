use Rattle.std.proofs.Common.{◌≡◌, true, length, ◌-◌, ◌≤◌, take}
use Rattle.std.specs.Io.KnownBytes.{Appends}
use Rattle.sdh_outside.proofs.writing.write_text.Given as goal

abbrev pub invariant-loop-sent : goal.invariant-loop-sent
invariant-loop-sent g l = record {
  within : l.sent ≤ length l.text;
  appended : Appends (g.W.Sink.written l.initial.sink) (g.W.Sink.written l.sink) (take l.sent l.text);
  stays : g.W.Sink.exact ≡ true → g.W.Sink.faults l.sink ≡ g.W.Sink.faults l.initial.sink;
  later : g.W.Sink.faults l.initial.sink ≤ g.W.Sink.faults l.sink;
  untouched : l.sent ≡ 0 → l.sink ≡ l.initial.sink;
}

abbrev pub decreases-loop-sent : goal.decreases-loop-sent
decreases-loop-sent g l = length l.text - l.sent
