use Rattle.sdh_spans.proofs.Steady.{spans_are_steady}
use Rattle.sdh_spans.proofs.spans_are_steady.Goals as goal

pub returns : goal.returns
returns c = spans_are_steady
