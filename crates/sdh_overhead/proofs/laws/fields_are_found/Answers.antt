use Rattle.sdh_overhead.proofs.Looking.{fields_are_found}
use Rattle.sdh_overhead.proofs.laws.fields_are_found.Goals as goal

pub returns : goal.returns
returns c = fields_are_found
