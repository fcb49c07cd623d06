use Rattle.std.proofs.Common.{◌≡◌, ◌+◌, refl, sym, subst, ◌∙◌, arith}
use Rattle.sdh_payload.specs.Stream.{stream_from}
use Rattle.sdh_outage.specs.Kept.{IsReach}
use Rattle.sdh_outage.proofs.Windows.{feed_next, reach_pushed}
use Rattle.sdh_outage.proofs.scratch.put_near.Goals as goal

pub loop-init : goal.loop-init
loop-init c =
    let feed = c.args.feed.now in
    let first = feed.clock.rounds in
    let none : first ≡ first + 0 = omega arith in
    record {
      reach = subst (λ n. IsReach feed first n c.args.bytes.now.items) none (subst (λ l. IsReach feed first first l) (sym c.requires.none) c.requires.at);
      port = refl;
      len = omega (arith, c.requires.empty);
      room = omega arith;
    }

pub put_chunk-requires-clause-plain : goal.put_chunk-requires-clause-plain
put_chunk-requires-clause-plain c = c.loop.invariant.reach.still

pub put_chunk-requires-clause-few : goal.put_chunk-requires-clause-few
put_chunk-requires-clause-few c = omega (arith, c.loop.invariant.reach.rounds_are, c.requires.few, c.loop-test.true)

pub put_chunk-requires-clause-room : goal.put_chunk-requires-clause-room
put_chunk-requires-clause-room c =
    omega (arith, c.loop.invariant.len, c.loop.invariant.room, c.requires.room, c.loop-test.true)

pub loop-preserved : goal.loop-preserved
loop-preserved c =
    let feed = c.loop.feed in
    let now = c.put_chunk.new.feed in
    let first = c.args.feed.now.clock.rounds in
    let made = first + c.loop.counter in
    let inv = c.loop.invariant in
    let r = inv.reach in
    let p = c.put_chunk.ensures in
    let more : made + 1 ≡ first + (c.loop.counter + 1) = omega arith in
    let next = feed_next feed now made p.next r.still r.rounds_are r.sent_is in
    record {
      reach = subst (λ n. IsReach now first n c.put_chunk.new.bytes.items) more
          (subst (λ l. IsReach now first (made + 1) l) (sym p.bytes)
          (reach_pushed feed now first made c.loop.bytes.items (stream_from feed.port feed.clock.sent 2349) p.next refl r));
      port = next.3 ∙ inv.port;
      len = omega (arith, p.len, inv.len);
      room = omega (arith, p.room, inv.room);
    }
