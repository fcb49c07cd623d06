use Rattle.sdh_spans.proofs.Finding.{sides_find_so}
use Rattle.sdh_spans.proofs.sides_find_so.Goals as goal

pub returns : goal.returns
returns c = sides_find_so
