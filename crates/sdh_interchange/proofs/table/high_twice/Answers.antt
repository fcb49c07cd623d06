use Rattle.std.proofs.Common.{arith}
use Rattle.sdh_interchange.proofs.Spreading.{in_twice}
use Rattle.sdh_interchange.proofs.table.high_twice.Goals as goal

pub returns-clause-each : goal.returns-clause-each
returns-clause-each c = λ j h. in_twice 8 c.args.v j c.requires (omega arith) h
