use Rattle.std.proofs.Common.{◌≡◌, replicate}
use Rattle.sdh_pointer.specs.Reading.{start}
use Rattle.sdh_terminal.specs.Receiving.{readings_of}
use Rattle.sdh_terminal.proofs.making.new_interpreters.Given as goal

abbrev pub invariant-loop-i : goal.invariant-loop-i
invariant-loop-i l = readings_of l.interps.items ≡ replicate l.i start
