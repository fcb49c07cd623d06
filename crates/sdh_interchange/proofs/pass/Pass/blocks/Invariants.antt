use Rattle.std.proofs.Common.{◌+◌, ◌*◌}
use Rattle.sdh_interchange.specs.Passes.{HasPassed}
use Rattle.sdh_interchange.proofs.pass.Pass.blocks.Given as goal

abbrev pub invariant-loop-b : goal.invariant-loop-b
invariant-loop-b g l = HasPassed g.row.N l.self (g.row.N * (270 * l.r + 9)) (g.row.N * (270 * l.r + (9 + 16 * l.b))) l.fn.bytes l.bytes
