use Rattle.std.proofs.Common.{◌≡◌, ◌+◌, length, ap, ◌∙◌, arith}
use Rattle.sdh_payload.specs.Clock.{Clock, next_form}
use Rattle.sdh_payload.specs.Chunk.{taken_len}
use Rattle.sdh_payload.specs.Stream.{start_of, stream_from}
use Rattle.sdh_payload.specs.Walk.{Walked}
use Rattle.sdh_payload.specs.Feed.{Fed}
use Rattle.sdh_payload.proofs.Containers.{stream_from-containers, length-containers_from}
use Rattle.sdh_payload.proofs.Chunks.{ticked_sent}
use Rattle.sdh_payload.proofs.feed.Feed.next_form.Goals as goal

pub fill-requires-clause-few : goal.fill-requires-clause-few
fill-requires-clause-few c =
    let rounds : c.self.inside.clock.rounds ≡ c.args.self.now.clock.rounds = ap (λ (f : Fed). f.clock.rounds) c.self.view_is in
    omega (arith, c.requires, rounds, c.tick-form.ensures.few, c.self.invariant.at_is)

pub returns-clause-chunk : goal.returns-clause-chunk
returns-clause-chunk c =
    c.fill.ensures.bytes
    ∙ stream_from-containers c.self.inside.walk.port c.self.inside.clock.sent c.self.inside.walk.at c.taken_len.result c.self.invariant.at_is
    ∙ ap (stream_from c.self.inside.walk.port c.self.inside.clock.sent) c.taken_len.ensures.len
    ∙ ap (λ (f : Fed). stream_from f.port f.clock.sent (taken_len c.tick-form.result)) c.self.view_is

pub returns-clause-count : goal.returns-clause-count
returns-clause-count c =
    ap length c.fill.ensures.bytes ∙ length-containers_from c.self.inside.walk.port c.self.inside.walk.at c.taken_len.result
    ∙ c.taken_len.ensures.len

pub invariant_of-self : goal.invariant_of-self
invariant_of-self c =
    let at : c.fill.new.self.at ≡ c.self.inside.walk.at + c.taken_len.result = ap (λ (w : Walked). w.at) c.fill.ensures.next in
    let port : start_of c.fill.new.self.port.offset ≡ start_of c.self.inside.walk.port.offset =
    ap (λ (w : Walked). start_of w.port.offset) c.fill.ensures.next in
    let sent : c.tick-form.new.self.sent ≡ c.self.inside.clock.sent + taken_len (next_form c.self.inside.clock) =
    ap (λ (k : Clock). k.sent) c.tick-form.ensures.clock ∙ ticked_sent c.self.inside.clock in
    let len : c.taken_len.result ≡ taken_len (next_form c.self.inside.clock) =
    c.taken_len.ensures.len ∙ ap taken_len c.tick-form.ensures.form in
    record { at_is = omega (arith, at, port, sent, len, c.self.invariant.at_is) }
