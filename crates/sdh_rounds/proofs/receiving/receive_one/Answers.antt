use Rattle.sdh_plant.specs.Arrivals.{arrived_in}
use Rattle.sdh_rounds.proofs.receiving.receive_one.Goals as goal

pub returns-clause-node : goal.returns-clause-node
returns-clause-node g c = record {
  came = arrived_in c.in_ok-arrived.arrived c.receive_into.new.into.landed;
  known = c.in_ok-arrived.ensures.arrival;
  node = c.receive_landed.ensures.node;
}
