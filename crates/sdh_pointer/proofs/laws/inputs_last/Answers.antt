use Rattle.sdh_pointer.proofs.Lasting.{inputs_last}
use Rattle.sdh_pointer.proofs.laws.inputs_last.Goals as goal

pub returns : goal.returns
returns c = inputs_last
