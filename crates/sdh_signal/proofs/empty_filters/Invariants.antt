use Rattle.std.proofs.Common.{◌≡◌}
use Rattle.sdh_basics.specs.Cells.{cells}
use Rattle.sdh_signal.specs.Signals.{no_filters}
use Rattle.sdh_signal.proofs.empty_filters.Given as goal

abbrev pub invariant-loop : goal.invariant-loop
invariant-loop l = l.filters.items ≡ cells (λ p. no_filters) l.counter
