use Rattle.sdh_plan.proofs.Slipping.{Others}
use Rattle.sdh_plan.proofs.form.circuit_named.Given as goal

abbrev pub invariant-loop-circuit : goal.invariant-loop-circuit
invariant-loop-circuit l = record { others : Others l.circuits.circuits l.word l.circuit }
