use Rattle.std.proofs.Common.{◌≡◌, length, take}
use Rattle.sdh_verdicts.specs.Sides as walk
use Rattle.sdh_verdicts.specs.Sides.{resting_of}
use Rattle.sdh_verdicts.specs.Failures.{steps_of}
use Rattle.sdh_verdicts.proofs.judging.with_failure.Given as goal

abbrev pub invariant-loop-i : goal.invariant-loop-i
invariant-loop-i l =
    resting_of l.rest ≡ walk.rests l.threshold (length l.map) l.place.at.0 l.place.side
    (take l.i (steps_of (length l.map) l.threshold l.failure)) (resting_of l.fn.from)
