use Rattle.std.proofs.Common.{ap, ◌∙◌}
use Rattle.sdh_plant.specs.Arrivals.{arrived_in}
use Rattle.sdh_sncp.specs.Node.{path_node_told}
use Rattle.sdh_sncp.proofs.Turning.{node_of}
use Rattle.sdh_sncp.proofs.Waiting.{delivers, node_told}
use Rattle.sdh_sncp.proofs.node.PathNode.receive_landed.Goals as goal

pub returns-clause-node : goal.returns-clause-node
returns-clause-node c =
    let i = c.self.inside in
    let cross = c.receive_landed.ensures.cross in
    let arrival = arrived_in c.args.arrived c.args.inbox.now.landed in
    (λ j. node_of i.threshold i.rounds (cross j) (delivers (cross j) i.ports) i.west_out i.east_out i.calm)
    ∙ node_told c.args.side arrival i.threshold i.rounds i.cross i.ports i.west_out i.east_out i.calm
    ∙ ap (path_node_told c.args.side arrival) c.self.view_is
