use Rattle.std.proofs.Common.{◌≡◌, ◌+◌, length, bytes_eq, ap, ◌∙◌, arith}
use Rattle.sdh_payload.specs.Chunk.{taken_len}
use Rattle.sdh_payload.specs.Clock.{Clock, waiting, next_form}
use Rattle.sdh_payload.specs.Stream.{start_of, stream_from}
use Rattle.sdh_payload.specs.Walk.{Walked}
use Rattle.sdh_payload.specs.Feed.{Fed}
use Rattle.sdh_payload.proofs.Containers.{stream_from-containers}
use Rattle.sdh_payload.proofs.Chunks.{ticked_sent, plain_len}
use Rattle.sdh_payload.proofs.Comparing.{others_differ}
use Rattle.sdh_payload.proofs.feed.Feed.is_next.Goals as goal

pub returns-then-chunk-ne2349-clause-answer : goal.returns-then-chunk-ne2349-clause-answer
returns-then-chunk-ne2349-clause-answer c = others_differ c.args.self.now.port c.args.self.now.clock.sent c.args.chunk.now c.if-chunk-ne2349.true

pub invariant_of-self : goal.invariant_of-self
invariant_of-self c =
    let at : c.is_next.new.self.at ≡ c.self.inside.walk.at + length c.args.chunk.now = ap (λ (w : Walked). w.at) c.is_next.ensures.next in
    let port : start_of c.is_next.new.self.port.offset ≡ start_of c.self.inside.walk.port.offset =
    ap (λ (w : Walked). start_of w.port.offset) c.is_next.ensures.next in
    let sent : c.tick.new.self.sent ≡ c.self.inside.clock.sent + taken_len (next_form c.self.inside.clock) =
    ap (λ (k : Clock). k.sent) c.tick.ensures.clock ∙ ticked_sent c.self.inside.clock in
    let still : waiting c.self.inside.clock ≡ 0 = ap (λ (f : Fed). waiting f.clock) c.self.view_is ∙ c.requires.plain in
    let len : taken_len (next_form c.self.inside.clock) ≡ 2349 = plain_len c.self.inside.clock still in
    let count : length c.args.chunk.now ≡ 2349 = c.if-chunk-ne2349.false in
    record { at_is = omega (arith, at, port, sent, len, count, c.self.invariant.at_is) }

pub returns-clause-answer : goal.returns-clause-answer
returns-clause-answer c =
    let count : length c.args.chunk.now ≡ 2349 = c.if-chunk-ne2349.false in
    c.is_next.ensures.answer
    ∙ ap (bytes_eq c.args.chunk.now) (stream_from-containers c.self.inside.walk.port c.self.inside.clock.sent c.self.inside.walk.at (length c.args.chunk.now)
    c.self.invariant.at_is ∙ ap (stream_from c.self.inside.walk.port c.self.inside.clock.sent) count
    ∙ ap (λ (f : Fed). stream_from f.port f.clock.sent 2349) c.self.view_is)
