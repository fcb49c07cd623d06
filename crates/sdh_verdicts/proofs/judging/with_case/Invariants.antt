use Rattle.std.proofs.Common.{◌≡◌, length, take}
use Rattle.sdh_verdicts.specs.Sides as walk
use Rattle.sdh_verdicts.specs.Sides.{resting_of}
use Rattle.sdh_verdicts.specs.Failures.{case_steps}
use Rattle.sdh_verdicts.proofs.judging.with_case.Given as goal

abbrev pub invariant-loop-failure : goal.invariant-loop-failure
invariant-loop-failure l =
    resting_of l.rest ≡ walk.rests l.threshold (length l.map) l.place.at.0 l.place.side
    (case_steps (length l.map) l.threshold (take l.failure-index l.case)) (resting_of l.fn.from)
