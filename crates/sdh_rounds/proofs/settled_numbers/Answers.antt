use Rattle.sdh_rounds.proofs.Laws as laws
use Rattle.sdh_rounds.proofs.settled_numbers.Goals as goal

pub returns : goal.returns
returns g c = laws.settled_numbers g.S.Station.kind
