use Rattle.std.proofs.Common.{◌+◌, ◌*◌}
use Rattle.sdh_interchange.specs.Passes.{HasPassed}
use Rattle.sdh_interchange.proofs.pass.Pass.plain.Given as goal

abbrev pub invariant-loop-b : goal.invariant-loop-b
invariant-loop-b g l = HasPassed g.row.N l.self l.from (l.from + l.b * 16) l.fn.bytes l.bytes
