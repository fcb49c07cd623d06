use Rattle.sdh_laws.proofs.strangers.Runs.{no_port_ever_meets_a_stranger}
use Rattle.sdh_laws.proofs.strangers.no_port_ever_meets_a_stranger.Goals as goal

pub returns : goal.returns
returns c = no_port_ever_meets_a_stranger
