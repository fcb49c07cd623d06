use Rattle.sdh_laws.proofs.converging.Spreading.{pointers_rest}
use Rattle.sdh_laws.proofs.converging.pointers_rest.Goals as goal

pub returns : goal.returns
returns c = pointers_rest
