use Rattle.sdh_node.proofs.Steps.{may_step}
use Rattle.sdh_node.proofs.cross.CrossConnect.step.Goals as goal

pub step-state-requires : goal.step-state-requires
step-state-requires c =
    may_step c.self.inside.map c.self.inside.at.0 c.self.inside.west c.self.inside.east c.request.result c.request-2.result c.fails.result c.fails-2.result c.heard.result c.heard-2.result
    c.self.invariant.cross.inside c.request.ensures.side c.request-2.ensures.side
    c.request.ensures.value c.request-2.ensures.value c.fails.ensures c.fails-2.ensures c.heard.ensures.value c.heard-2.ensures.value
