use Rattle.sdh_parity.proofs.Cutting.{in-pieces}
use Rattle.sdh_parity.proofs.pieces.pieces_make_the_whole.Goals as goal

pub returns : goal.returns
returns c = in-pieces
