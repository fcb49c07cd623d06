use Rattle.std.proofs.Common.{arith, ap}
use Rattle.sdh_report.specs.Written.{Written}
use Rattle.sdh_report.proofs.Short.{short-node_line}
use Rattle.sdh_cli.proofs.reports.put_node.Goals as goal

pub node_line-requires : goal.node_line-requires
node_line-requires c = omega (arith, c.requires.room, short-node_line c.node_told-line.result (omega arith))

pub returns-clause-room : goal.returns-clause-room
returns-clause-room c =
    omega (arith, c.requires.room, ap (λ (w : Written). w.room) c.node_line.ensures, short-node_line c.node_told-line.result (omega arith))
