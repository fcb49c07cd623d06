use Rattle.std.proofs.Common.{◌≡◌, ◌+◌, refl, sym, ap, subst, arith}
use Rattle.sdh_payload.specs.Stream.{stream_from}
use Rattle.sdh_outage.specs.Kept.{Reached, IsReach}
use Rattle.sdh_outage.proofs.Windows.{reach_pushed}
use Rattle.sdh_outage.proofs.reach.Reach.push.Goals as goal

pub invariant_of-self : goal.invariant_of-self
invariant_of-self c =
    let feed = c.self.inside.feed in
    let first = c.self.inside.first in
    let made = c.self.inside.made in
    let now = c.put_chunk.new.feed in
    let chunk = stream_from feed.port feed.clock.sent 2349 in
    let is_first : first ≡ c.args.self.now.first = ap (λ (r : Reached). r.first) c.self.view_is in
    let is_made : made ≡ c.args.self.now.made = ap (λ (r : Reached). r.made) c.self.view_is in
    let is_most : c.self.inside.most ≡ c.args.self.now.most = ap (λ (r : Reached). r.most) c.self.view_is in
    let p = c.put_chunk.ensures in
    let r = c.self.invariant.0 in (
      subst (λ l. IsReach now first (made + 1) l) (sym p.bytes)
          (reach_pushed feed now first made c.self.inside.bytes.items chunk p.next refl r),
      omega (arith, p.len, c.self.invariant.1, r.order),
      omega (arith, c.requires.room, is_first, is_made, is_most),
      c.self.invariant.3,
      omega (arith, c.self.invariant.4, p.room),
    )
