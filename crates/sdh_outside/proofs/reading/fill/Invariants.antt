use Rattle.std.proofs.Common.{◌≡◌, true, ◌≤◌, ◌-◌, take, length}
use Rattle.std.specs.Io.KnownBytes.{Consumes}
use Rattle.sdh_outside.proofs.reading.fill.Given as goal

abbrev pub invariant-loop-taken : goal.invariant-loop-taken
invariant-loop-taken g l = record {
  within : l.taken ≤ length l.buf;
  took : Consumes (g.R.Source.left l.initial.source) (g.R.Source.left l.source) (take l.taken l.buf);
  stays : g.R.Source.exact ≡ true → g.R.Source.faults l.source ≡ g.R.Source.faults l.initial.source;
  later : g.R.Source.faults l.initial.source ≤ g.R.Source.faults l.source;
}

abbrev pub decreases-loop-taken : goal.decreases-loop-taken
decreases-loop-taken g l = length l.buf - l.taken
