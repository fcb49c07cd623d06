use Rattle.std.proofs.Common.{◌≡◌}
use Rattle.sdh_rounds.specs.Held.{new_nodes}
use Rattle.sdh_rounds.proofs.ring.new_nodes.Given as goal

abbrev pub invariant-loop-i : goal.invariant-loop-i
invariant-loop-i g l = l.nodes.items ≡ new_nodes g.N.Station.kind l.settings l.map l.circuits.circuits l.i
