use Rattle.std.proofs.Common.{length, ap, sym, ◌∙◌}
use Rattle.sdh_node.specs.Node.{Node}
use Rattle.sdh_node.proofs.Later.{count_waits}
use Rattle.sdh_node.proofs.adm.Adm.deliver.Goals as goal

pub deliver_ports-requires-clause-many : goal.deliver_ports-requires-clause-many
deliver_ports-requires-clause-many g c =
    let i = c.self.inside in
    c.requires ∙ sym (ap (λ (n : Node). length n.ports) c.self.view_is) ∙ count_waits i.cross i.ports
