use Rattle.std.proofs.Common.{rules}
use Rattle.sdh_circuits.specs.Checks.{wish_of}
use Rattle.sdh_circuits.proofs.Kept.{in_ring}
use Rattle.sdh_circuits.proofs.Adding.{fits}
use Rattle.sdh_circuits.proofs.circuit_map.CircuitMap.check.Goals as goal

pub is_taken-requires-clause-circuit : goal.is_taken-requires-clause-circuit
is_taken-requires-clause-circuit c =
    in_ring c.args.map.now (wish_of c.args.asked.now) _ c.in-Some.ensures.from c.in-Some.ensures.to (search rules)

pub returns-clause-fits : goal.returns-clause-fits
returns-clause-fits c =
    fits c.args.self.now c.args.map.now (wish_of c.args.asked.now) _ (search rules) (search rules) c.len-nodes.ensures.few
    (in_ring c.args.map.now (wish_of c.args.asked.now) _ c.in-Some.ensures.from c.in-Some.ensures.to (search rules))
    (search rules) (search rules) (search rules) (search rules) (search rules)
