use Rattle.std.proofs.Common.{◌≡◌, take, drop, length, get_or}
use Rattle.sdh_basics.specs.Indexed.{map_from}
use Rattle.sdh_signal.specs.Signals.{no_filters}
use Rattle.sdh_signal.specs.Nodes.{filters_with}
use Rattle.sdh_signal.proofs.nodes.hear_all.Given as goal

abbrev pub invariant-loop-i : goal.invariant-loop-i
invariant-loop-i l = record {
  len : length l.filters.items ≡ length l.map;
  filters : take l.i l.filters.items ≡ map_from (λ p x. filters_with l.words (length l.map) p x (get_or l.fn.filters.items p no_filters)) 0
      (take l.i l.needs);
  rest : drop l.i l.filters.items ≡ drop l.i l.fn.filters.items;
}
