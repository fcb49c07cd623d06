use Rattle.std.proofs.Common.{◌≡◌, take, drop, length}
use Rattle.sdh_basics.specs.Indexed.{map_from}
use Rattle.sdh_terminal.specs.Tributaries.{fed}
use Rattle.sdh_terminal.proofs.tributary.feed_all.Given as goal

abbrev pub invariant-loop-i : goal.invariant-loop-i
invariant-loop-i l = record {
  done : take l.i l.ports.items ≡ map_from (λ i t. fed t) 0 (take l.i l.initial.ports.items);
  rest : drop l.i l.ports.items ≡ drop l.i l.initial.ports.items;
  len : length l.ports.items ≡ length l.initial.ports.items;
}
