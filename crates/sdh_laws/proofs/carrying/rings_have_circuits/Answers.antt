use Rattle.sdh_laws.proofs.carrying.Settles.{rings_circuits}
use Rattle.sdh_laws.proofs.carrying.rings_have_circuits.Goals as goal

pub returns : goal.returns
returns c = rings_circuits
