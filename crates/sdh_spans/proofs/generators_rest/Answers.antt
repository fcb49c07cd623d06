use Rattle.sdh_spans.proofs.Steady.{generators_rest}
use Rattle.sdh_spans.proofs.generators_rest.Goals as goal

pub returns : goal.returns
returns c = generators_rest
