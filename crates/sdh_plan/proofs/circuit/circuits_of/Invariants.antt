use Rattle.std.proofs.Common.{◌/◌}
use Rattle.sdh_ringmap.specs.Rates.{n_of}
use Rattle.sdh_plan.proofs.Provisions.{Added}
use Rattle.sdh_plan.proofs.circuit.circuits_of.Given as goal

abbrev pub invariant-loop-value : goal.invariant-loop-value
invariant-loop-value l = record { added : Added (n_of l.fn.rate / 2) l.ring l.values l.circuits l.value-index }
