use Rattle.std.proofs.Common.{arith}
use Rattle.sdh_plant.proofs.Degrading.{degraded-from}
use Rattle.sdh_plant.proofs.frames.invert_row_6.Goals as goal

pub returns : goal.returns
returns c =
    degraded-from c.args.rate c.args.columns c.args.bytes.now c.loop-i.bytes (omega arith) c.loop-i.auto.bytes
    (λ i high. c.loop-i.invariant.before i (omega arith))
    (λ i low high. c.loop-i.invariant.inside i (omega arith) (omega arith))
    (λ i low. c.loop-i.invariant.rest i (omega arith))
