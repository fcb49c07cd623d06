use Rattle.sdh_spans.proofs.Spans.{cut_spans_bring_ais}
use Rattle.sdh_spans.proofs.cut_spans_bring_ais.Goals as goal

pub returns : goal.returns
returns c = cut_spans_bring_ais
