use Rattle.std.proofs.Common.{arith}
use Rattle.sdh_circuits.proofs.Few.{few_circuits}
use Rattle.sdh_circuits.proofs.circuit_map.CircuitMap.at_port.Goals as goal

pub overflow_cast-result : goal.overflow_cast-result
overflow_cast-result c = let few = few_circuits _ c.self.invariant in let small = c.in_ok-at.ensures.within in omega arith
