use Rattle.sdh_laws.proofs.converging.Spans.{a_span_is_steady}
use Rattle.sdh_laws.proofs.converging.a_span_is_steady.Goals as goal

pub returns : goal.returns
returns c = a_span_is_steady
