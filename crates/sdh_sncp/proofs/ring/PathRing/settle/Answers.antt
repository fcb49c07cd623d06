use Rattle.sdh_sncp.proofs.Rings.{promises_kept}
use Rattle.sdh_sncp.proofs.ring.PathRing.settle.Goals as goal

pub returns-clause-laws : goal.returns-clause-laws
returns-clause-laws g c = promises_kept _ _ c.args.limit _ c.circuits_fit.ensures c.nodes_are_placed.ensures c.settle.ensures.step.outcome
