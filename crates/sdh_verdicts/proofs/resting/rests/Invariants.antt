use Rattle.std.proofs.Common.{◌≡◌, length, take}
use Rattle.sdh_verdicts.specs.Sides.{rests}
use Rattle.sdh_verdicts.specs.Sides.{resting_of}
use Rattle.sdh_verdicts.proofs.resting.rests.Given as goal

abbrev pub invariant-loop-step : goal.invariant-loop-step
invariant-loop-step l =
    resting_of l.rest ≡ rests l.threshold (length l.map) l.place.at.0 l.place.side (take l.step-index l.steps) (resting_of l.fn.from)
