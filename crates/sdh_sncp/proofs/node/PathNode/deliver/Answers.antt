use Rattle.std.proofs.Common.{length, ap, sym, ◌∙◌, arith}
use Rattle.sdh_sncp.specs.Node.{PathNode}
use Rattle.sdh_sncp.proofs.Waiting.{count_waits}
use Rattle.sdh_sncp.proofs.node.PathNode.deliver.Goals as goal

pub deliver-requires-clause-ports : goal.deliver-requires-clause-ports
deliver-requires-clause-ports c =
    λ k d lt. (let is = c.self.invariant.ports k d lt in (is.first, (let last = is.last in omega arith)))

pub deliver-requires-clause-many : goal.deliver-requires-clause-many
deliver-requires-clause-many c =
    let i = c.self.inside in
    c.requires ∙ sym (ap (λ (n : PathNode). length n.ports) c.self.view_is) ∙ count_waits i.cross i.ports
