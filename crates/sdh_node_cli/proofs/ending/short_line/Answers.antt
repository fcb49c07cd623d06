use Rattle.std.proofs.Common.{arith}
use Rattle.sdh_node_cli.proofs.Short.{short_bad}
use Rattle.sdh_node_cli.proofs.ending.short_line.Goals as goal

pub returns : goal.returns
returns c = short_bad c.args.why c.args.number (omega arith) (omega arith)
