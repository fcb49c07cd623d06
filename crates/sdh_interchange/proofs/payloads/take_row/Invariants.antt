use Rattle.std.proofs.Common.{◌+◌, ◌*◌}
use Rattle.sdh_interchange.specs.Taking.{HasTaken}
use Rattle.sdh_interchange.proofs.payloads.take_row.Given as goal

abbrev pub invariant-loop-b : goal.invariant-loop-b
invariant-loop-b g l = HasTaken g.row.N l.base (261 * l.r) (261 * l.r + 16 * l.b) l.bytes l.fn.out l.out
