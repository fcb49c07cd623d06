use Rattle.std.proofs.Common.{◌/◌, get_or, sym, ap, ◌∙◌, arith}
use Rattle.sdh_payload.specs.Stream.{path_overhead}
use Rattle.sdh_payload.proofs.Containers.{vc4_byte-overhead, vc4_byte-first}
use Rattle.sdh_payload.proofs.walk.first_byte.Goals as goal

pub returns-then-column-eq0 : goal.returns-then-column-eq0
returns-then-column-eq0 c =
    c.overhead_byte.ensures ∙ ap (λ t. get_or (path_overhead t 0 0) (c.args.index / 261) 0) c.trace.ensures.trace
    ∙ sym (vc4_byte-overhead c.args.port.now 0 0 c.args.index c.if-column-eq0.true)

pub returns : goal.returns
returns c = vc4_byte-first c.args.port.now _ c.args.index c.text-text.ensures.text (omega (arith, c.if-column-eq0.false))
