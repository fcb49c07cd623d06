use Rattle.sdh_laws.proofs.hearing.Signalling.{rounds_are_signal_rounds}
use Rattle.sdh_laws.proofs.hearing.rounds_are_signal_rounds.Goals as goal

pub returns : goal.returns
returns c = rounds_are_signal_rounds
