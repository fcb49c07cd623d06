use Rattle.std.proofs.Common.{ap, ◌∙◌, arith}
use Rattle.std.specs.Prelude.{length}
use Rattle.sdh_basics.proofs.CellsLaws.{length-cells}
use Rattle.sdh_nodestate.specs.declared.NodeState.TheVariants.{Idle}
use Rattle.sdh_nodestate.specs.Words.{first_words}
use Rattle.sdh_signal.specs.Signals.{no_filters}
use Rattle.sdh_signal.proofs.Rounds.{first_sourced}
use Rattle.sdh_signal.proofs.SignalRing.try_new.Goals as goal

pub invariant_of-result : goal.invariant_of-result
invariant_of-result c = record {
  ids_ok = c.len-count.ensures.ids;
  states_len = ap length c.in_ok-idle_states.ensures ∙ length-cells (λ p. Idle tt) c.len-count.result ∙ c.len-count.ensures.len;
  words_len = ap length c.in_ok-first_words.ensures ∙ length-cells (first_words c.args.map) (length c.args.map);
  filters_len = ap length c.in_ok-empty_filters.ensures ∙ length-cells (λ p. no_filters) c.len-count.result ∙ c.len-count.ensures.len;
  sourced = first_sourced c.args.map c.in_ok-first_words.field-0.items c.in_ok-first_words.ensures;
  few = omega arith;
  ran = omega arith;
  were = tt;
}
