use Rattle.std.proofs.Common.{◌∙◌}
use Rattle.sdh_plan.proofs.Filling.{big_made}
use Rattle.sdh_plan.proofs.big.big_plan.Goals as goal

pub returns : goal.returns
returns c =
    c.from_parts.ensures ∙ big_made c.args.number c.new-draws.result c.circuits_drawn.new.draws c.big_ring-ring.result c.in_ok-circuits.circuits c.in_ok-steps.steps.items
    c.new-draws.ensures c.in_ok-circuits.ensures.draws c.big_ring-ring.ensures c.in_ok-circuits.ensures.circuits c.in_ok-steps.ensures
