use Rattle.std.proofs.Common.{ap, sym, subst, ◌∙◌}
use Rattle.sdh_terminal.specs.Tributaries.{HasPort, waiting_of}
use Rattle.sdh_node.specs.Node.{Node}
use Rattle.sdh_node.proofs.Later.{has_waits, waiting_waits}
use Rattle.sdh_node.proofs.adm.Adm.waiting.Goals as goal

pub waiting-requires : goal.waiting-requires
waiting-requires g c =
    let i = c.self.inside in
    has_waits i.cross c.args.port i.ports (subst (λ (n : Node). HasPort n.ports c.args.port) (sym c.self.view_is) c.requires)

pub returns-clause-waiting : goal.returns-clause-waiting
returns-clause-waiting g c =
    let i = c.self.inside in
    c.waiting.ensures.waiting ∙ sym (waiting_waits i.cross c.args.port i.ports)
    ∙ ap (λ (n : Node). waiting_of c.args.port n.ports) c.self.view_is
