use Rattle.sdh_spans.proofs.Finding.{inlets_stay}
use Rattle.sdh_spans.proofs.inlets_stay.Goals as goal

pub returns : goal.returns
returns c = inlets_stay
