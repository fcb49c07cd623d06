use Rattle.sdh_laws.proofs.hearing.Changes.{new_worlds_are_whole}
use Rattle.sdh_laws.proofs.hearing.new_worlds_are_whole.Goals as goal

pub returns : goal.returns
returns c = new_worlds_are_whole
