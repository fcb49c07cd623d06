use Rattle.sdh_ringmap.specs.Rates.{n_of}
use Rattle.sdh_plan.specs.Counted.{past_in}
use Rattle.sdh_plan.proofs.Scripts.{Read}
use Rattle.sdh_plan.proofs.script.steps_of.Given as goal

abbrev pub invariant-loop-i : goal.invariant-loop-i
invariant-loop-i l = record { read : Read (n_of l.rate) l.ring l.circuits.circuits l.values (past_in l.past) l.steps.items l.i }
