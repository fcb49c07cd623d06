use Rattle.sdh_restoration.specs.Applied.{is_applied}
use Rattle.sdh_verdicts.specs.Verdicts.{requests_with, hops_under}
use Rattle.sdh_verdicts.proofs.Sets.{told_by}
use Rattle.sdh_verdicts.proofs.plans.told_hops.Goals as goal

pub returns : goal.returns
returns c = λ case circuit are is.
    told_by hops_under (is_applied (requests_with c.args.plan.now case)) c.args.applied.now c.map.result.now c.args.plan.now.nodes _ _ c.args.number
    c.get.result.now circuit _ c.map.ensures c.circuits-circuits.ensures c.get.ensures is are c.way.ensures
