use Rattle.sdh_spans.proofs.Finding.{untold_sides_find_nothing}
use Rattle.sdh_spans.proofs.untold_sides_find_nothing.Goals as goal

pub returns : goal.returns
returns c = untold_sides_find_nothing
