use Rattle.std.proofs.Common.{sym}
use Rattle.sdh_node_cli.proofs.Named.{named_within}
use Rattle.sdh_node_cli.proofs.record.own_port.Goals as goal

pub get-requires : goal.get-requires
get-requires c = named_within c.args.circuits.now.circuits c.args.word.now c.in-Some.circuit (sym c.in-Some.ensures)
