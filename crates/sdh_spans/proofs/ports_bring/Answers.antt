use Rattle.sdh_spans.proofs.Ports.{ports_bring}
use Rattle.sdh_spans.proofs.ports_bring.Goals as goal

pub returns : goal.returns
returns c = ports_bring
