use Rattle.std.proofs.Common.{subst}
use Rattle.sdh_sncp.specs.Laws.{HasPathCircuits}
use Rattle.sdh_sncp.proofs.Rings.{rings_circuits}
use Rattle.sdh_sncp.proofs.ring.PathRing.circuits_fit.Goals as goal

pub returns : goal.returns
returns c = subst HasPathCircuits c.self.view_is (rings_circuits _ c.self.invariant.ring)
