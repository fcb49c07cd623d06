use Rattle.std.proofs.Common.{◌≡◌, true, ◌≤◌, take, drop, map, length}
use Rattle.sdh_rounds.specs.Rounds.{frames_of, sent_some}
use Rattle.sdh_rounds.proofs.sending.send_all.Given as goal

abbrev pub invariant-sends : goal.invariant-sends
invariant-sends g l =
    let means = g.P.Plant.fibres in
    let kind = g.S.Station.kind in
    let at = l.now.0 in
    record {
      fibres : means l.plant ≡ sent_some (frames_of kind at (take l.i l.fn.nodes.items)) (means l.fn.plant);
      done : take l.i l.nodes.items ≡ map (kind.after at) (take l.i l.fn.nodes.items);
      rest : drop l.i l.nodes.items ≡ drop l.i l.fn.nodes.items;
      size : length l.nodes.items ≡ length l.fn.nodes.items;
      west : l.west.rate ≡ l.fn.west.rate;
      east : l.east.rate ≡ l.fn.east.rate;
      later : g.P.Plant.faults l.fn.plant ≤ g.P.Plant.faults l.plant;
      none : g.P.Plant.exact ≡ true → g.P.Plant.faults l.plant ≡ g.P.Plant.faults l.fn.plant;
    }
