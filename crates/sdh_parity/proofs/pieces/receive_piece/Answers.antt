use Rattle.std.proofs.Common.{refl, arith}
use Rattle.sdh_parity.proofs.pieces.receive_piece.Goals as goal

pub returns-clause-clear : goal.returns-clause-clear
returns-clause-clear c =
    λ before e. c.add_lanes.ensures.each before c.pass-passed.new.bytes e refl c.pass-passed.ensures.lanes
    (λ i. omega (arith, c.type_inv.bytes i))

pub returns-clause-line : goal.returns-clause-line
returns-clause-line c = λ before e. c.add_parity.ensures before c.args.bytes.now e c.pass-passed.ensures.line
