use Rattle.sdh_path.proofs.Clean.{chunks_are_clean}
use Rattle.sdh_path.proofs.laws.chunks_are_clean.Goals as goal

pub returns : goal.returns
returns c = chunks_are_clean
