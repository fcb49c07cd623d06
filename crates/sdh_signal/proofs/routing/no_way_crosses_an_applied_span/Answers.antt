use Rattle.sdh_signal.proofs.Free.{connects_free}
use Rattle.sdh_signal.proofs.routing.no_way_crosses_an_applied_span.Goals as goal

pub returns : goal.returns
returns c = connects_free
