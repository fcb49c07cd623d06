use Rattle.std.proofs.Common.{◌≡◌, ◌↔◌, IsTrue, take, drop, length}
use Rattle.sdh_basics.specs.Indexed.{map_from}
use Rattle.sdh_signal.specs.Nodes.{next_state, next_sent}
use Rattle.sdh_signal.proofs.nodes.step_all.Given as goal

abbrev pub invariant-loop-i : goal.invariant-loop-i
invariant-loop-i l = record {
  states_len : length l.states.items ≡ length l.map;
  sent_len : length l.sent.items ≡ length l.map;
  states : take l.i l.states.items ≡ map_from (next_state l.map l.filters l.held l.fn.states.items) 0 (take l.i l.needs);
  sent : take l.i l.sent.items ≡ map_from (next_sent l.map l.filters l.held l.fn.sent.items) 0 (take l.i l.needs);
  states_rest : drop l.i l.states.items ≡ drop l.i l.fn.states.items;
  sent_rest : drop l.i l.sent.items ≡ drop l.i l.fn.sent.items;
  same_states : IsTrue l.all.states ↔ (take l.i l.states.items ≡ take l.i l.fn.states.items);
  same_words : IsTrue l.all.words ↔ (take l.i l.sent.items ≡ take l.i l.fn.sent.items);
}
