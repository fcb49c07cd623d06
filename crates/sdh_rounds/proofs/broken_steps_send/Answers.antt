use Rattle.sdh_rounds.proofs.Laws as laws
use Rattle.sdh_rounds.proofs.broken_steps_send.Goals as goal

pub returns : goal.returns
returns g c = laws.broken_steps_send g.S.Station.kind
