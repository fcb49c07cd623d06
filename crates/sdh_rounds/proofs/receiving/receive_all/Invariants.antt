use Rattle.std.proofs.Common.{◌≡◌, true, ◌≤◌, take, drop, length}
use Rattle.sdh_rounds.specs.Calls.{FirstReceive}
use Rattle.sdh_rounds.proofs.receiving.receive_all.Given as goal

abbrev pub invariant-receives : goal.invariant-receives
invariant-receives g l =
    let means = g.P.Plant.fibres in
    record {
      done : FirstReceive g.S.Station.kind l.i (means l.fn.plant) (means l.plant) (take l.i l.fn.nodes.items) (take l.i l.nodes.items);
      rest : drop l.i l.nodes.items ≡ drop l.i l.fn.nodes.items;
      size : length l.nodes.items ≡ length l.fn.nodes.items;
      rate : l.inbox.rate ≡ l.fn.inbox.rate;
      later : g.P.Plant.faults l.fn.plant ≤ g.P.Plant.faults l.plant;
      none : g.P.Plant.exact ≡ true → g.P.Plant.faults l.plant ≡ g.P.Plant.faults l.fn.plant;
    }
