use Rattle.std.proofs.Common.{ap, sym, ◌∙◌}
use Rattle.std.specs.Prelude.{[], ◌∷◌, ◌++◌}
use Rattle.sdh_basics.proofs.CellsLaws.{cells-zero, cells-more}
use Rattle.sdh_signal.specs.Signals.{no_filters}
use Rattle.sdh_signal.proofs.empty_filters.Goals as goal

pub loop-init : goal.loop-init
loop-init c = c.in_ok-filters.ensures.items ∙ sym (cells-zero (λ p. no_filters))

pub loop-preserved : goal.loop-preserved
loop-preserved c =
    c.in_ok-push.ensures.items ∙ ap (λ x. c.loop.filters.items ++ x ∷ []) c.new.ensures ∙ ap (λ xs. xs ++ no_filters ∷ []) c.loop.invariant
    ∙ sym (cells-more (λ p. no_filters) c.loop.counter)
