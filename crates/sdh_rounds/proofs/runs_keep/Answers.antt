use Rattle.sdh_rounds.proofs.Laws as laws
use Rattle.sdh_rounds.proofs.runs_keep.Goals as goal

pub returns : goal.returns
returns g c = laws.runs_keep g.S.Station.kind
