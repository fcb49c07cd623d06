use Rattle.std.proofs.Common.{sym}
use Rattle.sdh_basics.proofs.ParityLaws.{bip8-nil}
use Rattle.sdh_parity.proofs.pieces.Bip8.new.Goals as goal

pub returns : goal.returns
returns c = sym bip8-nil
