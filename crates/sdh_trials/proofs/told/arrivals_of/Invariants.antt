use Rattle.std.specs.Prelude.{All}
use Rattle.sdh_plant.specs.Kept.{IsToldAt}
use Rattle.sdh_trials.proofs.told.arrivals_of.Given as goal

abbrev pub invariant-arrivals : goal.invariant-arrivals
invariant-arrivals l = All (IsToldAt l.rate) l.told.items
