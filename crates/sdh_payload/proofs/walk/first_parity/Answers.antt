use Rattle.std.proofs.Common.{sym, ap, ◌∙◌, arith}
use Rattle.sdh_basics.specs.Parity.{bip8}
use Rattle.sdh_basics.proofs.CellsLaws.{cells-zero}
use Rattle.sdh_basics.proofs.ParityLaws.{bip8-nil}
use Rattle.sdh_payload.specs.Stream.{vc4_byte}
use Rattle.sdh_payload.proofs.Containers.{parity_push}
use Rattle.sdh_payload.proofs.walk.first_parity.Goals as goal

pub loop-index-init : goal.loop-index-init
loop-index-init c = sym (ap bip8 (cells-zero (vc4_byte c.args.port.now 0 0)) ∙ bip8-nil)

pub loop-index-preserved : goal.loop-index-preserved
loop-index-preserved c = parity_push (vc4_byte c.args.port.now 0 0) _ _ _ c.loop-index.invariant c.first_byte-parity.ensures (omega arith)
