use Rattle.sdh_parity.proofs.Table.{table_at}
use Rattle.sdh_parity.proofs.scrambler.table.Goals as goal

pub returns-clause-each : goal.returns-clause-each
returns-clause-each c = table_at
