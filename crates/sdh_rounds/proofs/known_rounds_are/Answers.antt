use Rattle.sdh_rounds.proofs.Laws as laws
use Rattle.sdh_rounds.proofs.known_rounds_are.Goals as goal

pub returns : goal.returns
returns g c = laws.known_rounds_are g.S.Station.kind
