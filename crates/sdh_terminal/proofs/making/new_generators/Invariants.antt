use Rattle.std.proofs.Common.{◌≡◌, None, replicate}
use Rattle.sdh_terminal.specs.Passing.{states_of}
use Rattle.sdh_terminal.proofs.making.new_generators.Given as goal

abbrev pub invariant-loop-i : goal.invariant-loop-i
invariant-loop-i l = states_of l.generators.items ≡ replicate l.i None
