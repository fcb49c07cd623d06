use Rattle.sdh_rounds.proofs.Laws as laws
use Rattle.sdh_rounds.proofs.rounds_keep.Goals as goal

pub returns : goal.returns
returns g c = laws.rounds_keep g.S.Station.kind
