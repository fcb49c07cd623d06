use Rattle.sdh_pointer.proofs.Bounds.{bounds_are_kept}
use Rattle.sdh_pointer.proofs.laws.bounds_are_kept.Goals as goal

pub returns : goal.returns
returns c = bounds_are_kept
