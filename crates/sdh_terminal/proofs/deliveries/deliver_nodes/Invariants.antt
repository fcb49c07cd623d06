use Rattle.std.proofs.Common.{◌≡◌, length, take, drop}
use Rattle.sdh_basics.specs.Indexed.{map_from}
use Rattle.sdh_terminal.proofs.deliveries.deliver_nodes.Given as goal

abbrev pub invariant-loop-i : goal.invariant-loop-i
invariant-loop-i g l = record {
  done : take l.i l.rooms.items ≡ map_from (λ k n. g.N.Delivers.delivered n) 0 (take l.i l.nodes);
  rest : drop l.i l.rooms.items ≡ drop l.i l.initial.rooms.items;
  len : length l.rooms.items ≡ length l.nodes;
}
