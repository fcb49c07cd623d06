use Rattle.sdh_path.proofs.Clean.{clocks_are_in_step}
use Rattle.sdh_path.proofs.laws.clocks_are_in_step.Goals as goal

pub returns : goal.returns
returns c = clocks_are_in_step
