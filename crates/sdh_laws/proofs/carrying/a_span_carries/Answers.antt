use Rattle.sdh_laws.proofs.carrying.Spans.{span}
use Rattle.sdh_laws.proofs.carrying.a_span_carries.Goals as goal

pub returns : goal.returns
returns c = span
