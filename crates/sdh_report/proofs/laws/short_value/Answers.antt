use Rattle.std.proofs.Common.{arith}
use Rattle.sdh_report.proofs.Short.{short-port_line}
use Rattle.sdh_report.proofs.laws.short_value.Goals as goal

pub returns : goal.returns
returns c = λ name end delivered short. short-port_line name end delivered c.args.value short (omega arith)
