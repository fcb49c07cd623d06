use Rattle.std.proofs.Common.{true, ap, arith}
use Rattle.sdh_report.specs.Written.{Written}
use Rattle.sdh_outside.proofs.Pieces.{whole}
use Rattle.sdh_report.proofs.output.TextOutput.put.Goals as goal

pub returns-clause-wrote : goal.returns-clause-wrote
returns-clause-wrote c = whole true _ _ 0 c.args.piece.now tt (ap (λ (w : Written). w.bytes) c.put.ensures)

pub returns-clause-room : goal.returns-clause-room
returns-clause-room c more takes = omega (arith, takes, ap (λ (w : Written). w.room) c.put.ensures)
