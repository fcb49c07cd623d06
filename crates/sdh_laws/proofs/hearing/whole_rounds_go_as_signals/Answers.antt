use Rattle.sdh_laws.proofs.hearing.Going.{whole_rounds_go_as_signals}
use Rattle.sdh_laws.proofs.hearing.whole_rounds_go_as_signals.Goals as goal

pub returns : goal.returns
returns c = whole_rounds_go_as_signals
