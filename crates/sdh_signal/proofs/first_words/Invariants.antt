use Rattle.std.proofs.Common.{◌≡◌}
use Rattle.sdh_basics.specs.Cells.{cells}
use Rattle.sdh_nodestate.specs.Words.{first_words}
use Rattle.sdh_signal.proofs.first_words.Given as goal

abbrev pub invariant-loop-i : goal.invariant-loop-i
invariant-loop-i l = l.words.items ≡ cells (first_words l.map) l.i
