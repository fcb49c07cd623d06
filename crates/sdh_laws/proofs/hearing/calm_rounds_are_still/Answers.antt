use Rattle.sdh_laws.proofs.hearing.Signalling.{calm_rounds_are_still}
use Rattle.sdh_laws.proofs.hearing.calm_rounds_are_still.Goals as goal

pub returns : goal.returns
returns c = calm_rounds_are_still
