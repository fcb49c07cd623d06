use Rattle.sdh_node.specs.Rings.Held.{HeldRing}
use Rattle.sdh_laws.specs.Carrying.Windows.{layout_in, HasCircuits}
use Rattle.sdh_laws.proofs.carrying.Settles.{rings_circuits}
use Rattle.std.proofs.Common.{subst}
use Rattle.sdh_ring.proofs.adm_ring.AdmRing.circuits_fit.Goals as goal

pub returns : goal.returns
returns g c = subst (λ (r : HeldRing). HasCircuits (layout_in r)) c.self.view_is (rings_circuits _ c.self.invariant.ring)
