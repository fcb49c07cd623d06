use Rattle.std.proofs.Common.{◌≡◌, ◌+◌, ap, ◌∙◌, arith}
use Rattle.sdh_payload.specs.Clock.{Clock, next_form}
use Rattle.sdh_payload.specs.Chunk.{taken_len}
use Rattle.sdh_payload.specs.Stream.{start_of}
use Rattle.sdh_payload.specs.Walk.{Walked}
use Rattle.sdh_payload.proofs.Chunks.{ticked_sent}
use Rattle.sdh_payload.proofs.feed.Feed.pass.Goals as goal

pub invariant_of-self : goal.invariant_of-self
invariant_of-self c =
    let at : c.pass.new.self.at ≡ c.self.inside.walk.at + c.taken_len.result = ap (λ (w : Walked). w.at) c.pass.ensures in
    let port : start_of c.pass.new.self.port.offset ≡ start_of c.self.inside.walk.port.offset =
    ap (λ (w : Walked). start_of w.port.offset) c.pass.ensures in
    let sent : c.tick-form.new.self.sent ≡ c.self.inside.clock.sent + taken_len (next_form c.self.inside.clock) =
    ap (λ (k : Clock). k.sent) c.tick-form.ensures.clock ∙ ticked_sent c.self.inside.clock in
    let len : c.taken_len.result ≡ taken_len (next_form c.self.inside.clock) =
    c.taken_len.ensures.len ∙ ap taken_len c.tick-form.ensures.form in
    record { at_is = omega (arith, at, port, sent, len, c.self.invariant.at_is) }
