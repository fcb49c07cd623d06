use Rattle.std.proofs.Common.{ap, sym, subst, ◌∙◌}
use Rattle.sdh_node.specs.Rings.Held.{HeldRing}
use Rattle.sdh_node.specs.Rings.Clocks.{HasPortIn, clock_at}
use Rattle.sdh_node.specs.Rings.Fixed.{IsRested}
use Rattle.sdh_ring.proofs.Owned.{rested_there}
use Rattle.sdh_ring.proofs.adm_ring.AdmRing.few_slips_wait.Goals as goal

pub returns : goal.returns
returns g c = λ port there.
    let whole = ap (λ (r : HeldRing). r.broken) c.self.view_is ∙ c.requires in
    subst (λ (r : HeldRing). IsRested (clock_at r port)) c.self.view_is
    (rested_there _ c.self.invariant.ring whole port (subst (λ (r : HeldRing). HasPortIn r port) (sym c.self.view_is) there))
