use Rattle.std.proofs.Common.{ap, sym, subst, ◌∙◌}
use Rattle.sdh_payload.specs.Outlet.{front_of}
use Rattle.sdh_terminal.specs.Tributaries.{HasPort, outlet_of}
use Rattle.sdh_node.specs.Node.{Node}
use Rattle.sdh_node.proofs.Later.{has_waits}
use Rattle.sdh_node.proofs.adm.Adm.front.Goals as goal

pub front_at-requires-clause-there : goal.front_at-requires-clause-there
front_at-requires-clause-there g c =
    let i = c.self.inside in
    has_waits i.cross c.args.port i.ports (subst (λ (n : Node). HasPort n.ports c.args.port) (sym c.self.view_is) c.requires)

pub returns : goal.returns
returns g c =
    c.front_at.ensures ∙ ap (λ (n : Node). front_of (outlet_of c.args.port n.ports)) c.self.view_is
