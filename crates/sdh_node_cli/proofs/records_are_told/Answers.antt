use Rattle.sdh_node_cli.proofs.Unique as unique
use Rattle.sdh_node_cli.proofs.records_are_told.Goals as goal

pub returns : goal.returns
returns c = unique.records_are_told
