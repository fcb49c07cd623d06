use Rattle.sdh_spans.proofs.Spans.{spans_bring}
use Rattle.sdh_spans.proofs.spans_bring.Goals as goal

pub returns : goal.returns
returns c = spans_bring
