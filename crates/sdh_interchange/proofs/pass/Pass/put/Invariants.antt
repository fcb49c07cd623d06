use Rattle.std.proofs.Common.{◌+◌, ◌*◌}
use Rattle.sdh_interchange.specs.Passes.{HasPassed}
use Rattle.sdh_interchange.proofs.pass.Pass.put.Given as goal

abbrev pub invariant-loop-k : goal.invariant-loop-k
invariant-loop-k g l = HasPassed g.row.N l.self l.at (l.at + 16 * l.k) l.fn.bytes l.bytes
