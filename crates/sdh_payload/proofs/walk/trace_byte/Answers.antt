use Rattle.std.proofs.Common.{arith}
use Rattle.sdh_payload.proofs.Containers.{padded_inside, padded_behind}
use Rattle.sdh_payload.proofs.walk.trace_byte.Goals as goal

pub returns-then-place-trace : goal.returns-then-place-trace
returns-then-place-trace c = padded_inside _ _ c.if-place-trace.true

pub returns-else-place-trace : goal.returns-else-place-trace
returns-else-place-trace c = padded_behind _ _ c.if-place-trace.false (omega arith)
