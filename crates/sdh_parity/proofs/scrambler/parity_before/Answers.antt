use Rattle.std.proofs.Common.{arith}
use Rattle.sdh_parity.proofs.Sums.{parities_at}
use Rattle.sdh_parity.proofs.scrambler.parity_before.Goals as goal

pub returns : goal.returns
returns c = parities_at c.args.i (omega arith)
