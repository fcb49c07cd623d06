use Rattle.std.proofs.Common.{ap, subst, ◌∙◌}
use Rattle.sdh_sncp.specs.Ring.{HeldPath}
use Rattle.sdh_sncp.specs.Placed.{IsPlacedPathRing}
use Rattle.sdh_sncp.proofs.ring.PathRing.nodes_are_placed.Goals as goal

pub returns : goal.returns
returns c =
    subst IsPlacedPathRing c.self.view_is (c.self.invariant.ring.placed (ap (λ (r : HeldPath). r.broken) c.self.view_is ∙ c.requires))
