use Rattle.sdh_payload.proofs.Histories.{clocks_go_by_history}
use Rattle.sdh_payload.proofs.laws.clocks_go_by_history.Goals as goal

pub returns : goal.returns
returns c = clocks_go_by_history
