use Rattle.std.proofs.Common.{◌≡◌, length}
use Rattle.sdh_terminal.proofs.outlet.Outlets.try_new.Given as goal

abbrev pub invariant-loop : goal.invariant-loop
invariant-loop l = length l.items.items ≡ l.counter
