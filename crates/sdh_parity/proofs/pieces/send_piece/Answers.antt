use Rattle.std.proofs.Common.{sym}
use Rattle.sdh_parity.proofs.pieces.send_piece.Goals as goal

pub returns-clause-clear : goal.returns-clause-clear
returns-clause-clear c =
    λ before e. c.add_lanes.ensures.each before c.args.bytes.now e
    (sym c.pass-passed.auto.bytes) c.pass-passed.ensures.lanes c.pass-passed.ensures.small

pub returns-clause-line : goal.returns-clause-line
returns-clause-line c = λ before e. c.add_parity.ensures before c.pass-passed.new.bytes e c.pass-passed.ensures.line
