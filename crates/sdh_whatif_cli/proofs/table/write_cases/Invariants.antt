use Rattle.std.proofs.Common.{◌≡◌, ◌≤◌, Ok}
use Rattle.sdh_outside.specs.declared.writing.WriteFault.{WriteFault}
use Rattle.sdh_outside.specs.Writing.{Wrote}
use Rattle.sdh_whatif_cli.specs.Cases.{told_below}
use Rattle.sdh_whatif_cli.specs.Lines.{lines_below}
use Rattle.sdh_whatif_cli.proofs.table.write_cases.Given as goal

abbrev pub invariant-loop-number : goal.invariant-loop-number
invariant-loop-number g l = record {
  wrote : Wrote {T = Unit {0}} {E = WriteFault} g.W.Sink.exact (g.W.Sink.written l.initial.sink) (g.W.Sink.written l.sink)
      (g.W.Sink.faults l.initial.sink) (g.W.Sink.faults l.sink) (lines_below l.fn.scene.plan.now l.fn.scene.own.now l.fn.ask l.number) (Ok tt);
  told : l.before ≡ told_below l.fn.scene.plan.now l.fn.scene.own.now l.fn.ask l.number;
  few : l.before ≤ l.number;
}
