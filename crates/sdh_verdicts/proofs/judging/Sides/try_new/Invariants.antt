use Rattle.std.proofs.Common.{◌≡◌, map}
use Rattle.sdh_basics.specs.Cells.{cells}
use Rattle.sdh_verdicts.specs.Sides.{resting_of}
use Rattle.sdh_verdicts.specs.Verdicts.{numbered}
use Rattle.sdh_verdicts.proofs.judging.Sides.try_new.Given as goal

abbrev pub invariant-loop-number : goal.invariant-loop-number
invariant-loop-number l = map resting_of l.kept.items ≡ cells (numbered l.plan) l.number
