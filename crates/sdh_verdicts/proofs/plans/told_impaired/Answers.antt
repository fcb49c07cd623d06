use Rattle.std.specs.Prelude.{not}
use Rattle.sdh_ringmap.specs.Arcs.{is_clear}
use Rattle.sdh_circuits.specs.Provisioned.{arc_of}
use Rattle.sdh_verdicts.specs.Verdicts.{requests_with, is_troubled}
use Rattle.sdh_verdicts.proofs.Sets.{told_by}
use Rattle.sdh_verdicts.proofs.plans.told_impaired.Goals as goal

pub returns : goal.returns
returns c = λ case circuit are is. (
    let plan = c.args.plan.now in
    let p = is_troubled (requests_with plan case) in
    told_by (λ n q x. not (is_clear n q (arc_of n x))) p c.args.troubled.now c.map.result.now plan.nodes _ _ c.args.number
    c.get.result.now circuit _ c.map.ensures c.circuits-circuits.ensures c.get.ensures is are c.meets.ensures)
