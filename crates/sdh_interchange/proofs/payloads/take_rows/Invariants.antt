use Rattle.std.proofs.Common.{◌*◌}
use Rattle.sdh_interchange.specs.Taking.{HasTaken}
use Rattle.sdh_interchange.proofs.payloads.take_rows.Given as goal

abbrev pub invariant-loop-r : goal.invariant-loop-r
invariant-loop-r g l = HasTaken g.row.N l.base 0 (261 * l.r) l.bytes l.fn.out l.out
