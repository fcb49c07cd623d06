use Rattle.sdh_frame.proofs.Single.{one_list}
use Rattle.sdh_frame.proofs.laws.writing_one_list_writes_the_au.Goals as goal

pub returns : goal.returns
returns c = one_list
