use Rattle.std.proofs.Common.{arith}
use Rattle.sdh_parity.proofs.Table.{table_at}
use Rattle.sdh_parity.proofs.scrambler.sequence.Goals as goal

pub returns : goal.returns
returns c = table_at c.args.i (omega arith)
