use Rattle.std.proofs.Common.{◌≡◌, length, map}
use Rattle.sdh_basics.specs.Cells.{cells}
use Rattle.sdh_outage_cli.proofs.rooms.rooms_below.Given as goal

abbrev pub invariant-loop-count : goal.invariant-loop-count
invariant-loop-count l = map length l.rooms.items ≡ cells (λ k. k) l.count
