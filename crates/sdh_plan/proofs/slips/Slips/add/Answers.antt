use Rattle.std.proofs.Common.{◌+◌, set, ap, rules}
use Rattle.sdh_circuits.specs.declared.End.TheVariants.{A, B}
use Rattle.sdh_plan.proofs.Slipping.{slips_more_at, a_stays, b_stays}
use Rattle.sdh_plan.proofs.slips.Slips.add.Goals as goal

pub returns-in-A : goal.returns-in-A
returns-in-A c =
    slips_more_at c.args.self.now _ c.args.port c.args.more A c.in-A.is (search rules)
    (ap (λ k. set c.args.self.now.at_a c.args.port.circuit (k + c.args.more)) c.count.ensures) (b_stays c.args.self.now _)

pub returns-in-B : goal.returns-in-B
returns-in-B c =
    slips_more_at c.args.self.now _ c.args.port c.args.more B c.in-B.is (search rules)
    (ap (λ k. set c.args.self.now.at_b c.args.port.circuit (k + c.args.more)) c.count.ensures) (a_stays c.args.self.now _)
