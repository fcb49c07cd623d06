use Rattle.sdh_spans.proofs.Ports.{ports_deliver}
use Rattle.sdh_spans.proofs.ports_deliver.Goals as goal

pub returns : goal.returns
returns c = ports_deliver
