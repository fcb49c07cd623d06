use Rattle.std.proofs.Common.{◌≡◌}
use Rattle.sdh_basics.specs.Cells.{cells}
use Rattle.sdh_nodestate.specs.declared.NodeState.TheVariants.{Idle}
use Rattle.sdh_signal.proofs.idle_states.Given as goal

abbrev pub invariant-loop : goal.invariant-loop
invariant-loop l = l.states.items ≡ cells (λ p. Idle tt) l.counter
