use Rattle.std.proofs.Common.{ap, sym, subst, ◌∙◌}
use Rattle.sdh_node.specs.Receiving.{commanded_by}
use Rattle.sdh_node.specs.Crossing.{all_delivered}
use Rattle.sdh_node.specs.Node.{at_receiving, IsNode}
use Rattle.sdh_node.proofs.Turning.{node_of}
use Rattle.sdh_terminal.specs.Tributaries.{outlets_of}
use Rattle.sdh_node.proofs.Later.{commanded_stays, commanded_later, node_commanded}
use Rattle.sdh_node.proofs.adm.Adm.command.Goals as goal

pub invariant_of-self : goal.invariant_of-self
invariant_of-self g c =
    let i = c.self.inside in
    let cross = c.command.ensures.cross in
    record {
      node = subst (λ x. IsNode (node_of i.settings i.rounds i.held x i.ports i.west_out i.east_out i.calm)) (sym cross)
          (commanded_stays c.args.side c.args.command i.settings i.rounds i.held i.cross i.ports i.west_out i.east_out i.calm c.self.invariant.node);
      room = c.self.invariant.room;
      taken = λ each. c.self.invariant.taken each
          ∙ sym (ap (λ x. outlets_of (all_delivered x i.ports)) c.command.ensures.cross ∙ ap outlets_of (commanded_later c.args.side c.args.command i.cross i.ports));
    }

pub returns-clause-node : goal.returns-clause-node
returns-clause-node g c =
    let i = c.self.inside in
    let cross = c.command.ensures.cross in
    (λ j. node_of i.settings i.rounds i.held (cross j) (all_delivered (cross j) i.ports) i.west_out i.east_out i.calm)
    ∙ node_commanded c.args.side c.args.command i.settings i.rounds i.held i.cross i.ports i.west_out i.east_out i.calm
    ∙ ap (at_receiving c.args.side (commanded_by c.args.command)) c.self.view_is
