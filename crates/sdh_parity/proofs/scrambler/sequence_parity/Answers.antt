use Rattle.sdh_parity.proofs.Sums.{parity-between}
use Rattle.sdh_parity.proofs.scrambler.sequence_parity.Goals as goal

pub returns : goal.returns
returns c = parity-between c.args.at c.args.len _ _ c.parity_before.ensures c.parity_before-2.ensures
