use Rattle.std.proofs.Common.{◌≡◌, ◌*◌, [], sym, subst, ◌∙◌, arith}
use Rattle.sdh_payload.specs.Stream.{stream_from}
use Rattle.sdh_outage.specs.Kept.{IsReach}
use Rattle.sdh_outage.proofs.Windows.{near_is}
use Rattle.sdh_outage.proofs.scratch.Scratch.fill.Goals as goal

pub put_near-requires-clause-at : goal.put_near-requires-clause-at
put_near-requires-clause-at c =
    let feed = c.feed_before-feed.result in
    let at = c.feed_before-feed.ensures.at in
    subst (λ n. IsReach feed n n []) (sym at.rounds_are) at

pub put_near-requires-clause-few : goal.put_near-requires-clause-few
put_near-requires-clause-few c = omega (arith, c.feed_before-feed.ensures.at.rounds_are, c.saturating_sub.ensures, c.requires)

pub returns : goal.returns
returns c =
    let feed = c.feed_before-feed.result in
    let first = c.saturating_sub.result in
    let rounds : feed.clock.rounds ≡ first = c.feed_before-feed.ensures.at.rounds_are in
    let whose = c.feed_before-feed.ensures.port in
    near_is c.args.port.now c.args.round first _ c.saturating_sub.ensures
    (c.put_near.ensures.bytes ∙ (λ i. stream_from (whose i) (2349 * rounds i) (2349 * 78)))
