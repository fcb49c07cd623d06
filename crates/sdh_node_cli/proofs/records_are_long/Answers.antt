use Rattle.sdh_node_cli.proofs.Long as long
use Rattle.sdh_node_cli.proofs.records_are_long.Goals as goal

pub returns : goal.returns
returns c = long.records_are_long
