use Rattle.sdh_path.proofs.Clean.{feeds_are_clean}
use Rattle.sdh_path.proofs.laws.feeds_are_clean.Goals as goal

pub returns : goal.returns
returns c = feeds_are_clean
