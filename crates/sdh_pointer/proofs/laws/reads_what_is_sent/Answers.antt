use Rattle.sdh_pointer.proofs.Coupling.{reads_what_is_sent}
use Rattle.sdh_pointer.proofs.laws.reads_what_is_sent.Goals as goal

pub returns : goal.returns
returns c = reads_what_is_sent
