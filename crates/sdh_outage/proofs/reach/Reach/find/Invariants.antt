use Rattle.std.proofs.Common.{◌≡◌}
use Rattle.sdh_outage.specs.Kept.{Reached}
use Rattle.sdh_outage.proofs.reach.Reach.find.Given as goal

abbrev pub invariant-loop : goal.invariant-loop
invariant-loop l = (let r : Reached = record l.fn.self { first = l.counter; made = l.counter } in l.self ≡ r)
