use Rattle.sdh_plan.proofs.Filling.{Filling}
use Rattle.sdh_plan.proofs.big.fill_slot.Given as goal

abbrev pub invariant-loop-left : goal.invariant-loop-left
invariant-loop-left l = record {
  filling : Filling l.fn.slot l.fn.draws l.fn.circuits.circuits l.circuits
      (record { number = l.number; at = l.at; left = l.left; state = l.draws });
}

abbrev pub decreases-loop-left : goal.decreases-loop-left
decreases-loop-left l = l.left
