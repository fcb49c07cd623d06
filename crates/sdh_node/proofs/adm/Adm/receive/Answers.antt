use Rattle.std.proofs.Common.{ap, sym, subst, ◌∙◌}
use Rattle.sdh_plant.specs.Arrivals.{as_arrival}
use Rattle.sdh_node.specs.Receiving.{arrived_on}
use Rattle.sdh_node.specs.Crossing.{all_delivered}
use Rattle.sdh_node.specs.Node.{at_receiving, IsNode}
use Rattle.sdh_node.proofs.Turning.{node_of}
use Rattle.sdh_terminal.specs.Tributaries.{outlets_of}
use Rattle.sdh_node.proofs.Later.{arrived_stays, arrived_later, node_told}
use Rattle.sdh_node.proofs.adm.Adm.receive.Goals as goal

pub invariant_of-self : goal.invariant_of-self
invariant_of-self g c =
    let i = c.self.inside in
    let cross = c.receive.ensures.cross in
    record {
      node = subst (λ x. IsNode (node_of i.settings i.rounds i.held x i.ports i.west_out i.east_out i.calm)) (sym cross)
          (arrived_stays c.args.side (as_arrival c.args.arrived c.args.frame.now.bytes) i.settings i.rounds i.held i.cross i.ports i.west_out i.east_out i.calm c.self.invariant.node);
      room = c.self.invariant.room;
      taken = λ each. c.self.invariant.taken each
          ∙ sym (ap (λ x. outlets_of (all_delivered x i.ports)) c.receive.ensures.cross ∙ ap outlets_of (arrived_later c.args.side (as_arrival c.args.arrived c.args.frame.now.bytes) i.cross i.ports));
    }

pub returns-clause-node : goal.returns-clause-node
returns-clause-node g c =
    let i = c.self.inside in
    let cross = c.receive.ensures.cross in
    let arrival = as_arrival c.args.arrived c.args.frame.now.bytes in
    (λ j. node_of i.settings i.rounds i.held (cross j) (all_delivered (cross j) i.ports) i.west_out i.east_out i.calm)
    ∙ node_told c.args.side arrival i.settings i.rounds i.held i.cross i.ports i.west_out i.east_out i.calm
    ∙ ap (at_receiving c.args.side (arrived_on arrival)) c.self.view_is
