use Rattle.std.proofs.Common.{◌≡◌, length}
use Rattle.sdh_watch.proofs.ports.new_watches.Given as goal

abbrev pub invariant-loop-i : goal.invariant-loop-i
invariant-loop-i l = length l.watches.items ≡ l.i
