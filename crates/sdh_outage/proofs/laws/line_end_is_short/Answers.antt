use Rattle.std.proofs.Common.{arith}
use Rattle.sdh_outage.proofs.Short.{length-of_port}
use Rattle.sdh_outage.proofs.laws.line_end_is_short.Goals as goal

pub returns-clause-port : goal.returns-clause-port
returns-clause-port c = λ name end h. omega (arith, length-of_port name end)
