use Rattle.std.proofs.Common.{ap, sym, ◌∙◌}
use Rattle.std.specs.Prelude.{[], ◌∷◌, ◌++◌}
use Rattle.sdh_basics.proofs.CellsLaws.{cells-zero, cells-more}
use Rattle.sdh_nodestate.specs.declared.NodeState.TheVariants.{Idle}
use Rattle.sdh_signal.proofs.idle_states.Goals as goal

pub loop-init : goal.loop-init
loop-init c = c.in_ok-states.ensures.items ∙ sym (cells-zero (λ p. Idle tt))

pub loop-preserved : goal.loop-preserved
loop-preserved c =
    c.in_ok-push.ensures.items ∙ ap (λ x. c.loop.states.items ++ x ∷ []) c.start.ensures ∙ ap (λ xs. xs ++ Idle tt ∷ []) c.loop.invariant
    ∙ sym (cells-more (λ p. Idle tt) c.loop.counter)
