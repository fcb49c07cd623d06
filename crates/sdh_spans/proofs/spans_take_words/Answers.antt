use Rattle.sdh_spans.proofs.Spans.{spans_take_words}
use Rattle.sdh_spans.proofs.spans_take_words.Goals as goal

pub returns : goal.returns
returns c = spans_take_words
