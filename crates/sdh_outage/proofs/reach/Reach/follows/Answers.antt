use Rattle.std.proofs.Common.{◌+◌, [], sym, ap, subst, ◌∙◌, arith}
use Rattle.std.proofs.lemmas.Slice.Eq.{bytes_eq-Decides}
use Rattle.sdh_payload.specs.Stream.{stream_from, chunk_of}
use Rattle.sdh_outage.specs.Kept.{Reached, IsReach}
use Rattle.sdh_outage.proofs.Windows.{reach_cleared, reach_passed}
use Rattle.sdh_outage.proofs.reach.Reach.follows.Goals as goal

pub invariant_of-self : goal.invariant_of-self
invariant_of-self c =
    let inside = c.self.inside in
    let next = c.is_next-same.new.self in
    let made = inside.made in
    let none = reach_cleared inside.feed inside.first made inside.bytes.items c.self.invariant.0 in (
      subst (IsReach next (made + 1) (made + 1)) (sym c.clear.ensures.items)
          (reach_passed inside.feed next made [] c.is_next-same.ensures.next none),
      omega (arith, c.clear.ensures.len),
      omega arith,
      c.self.invariant.3,
      omega (arith, c.self.invariant.4, c.clear.ensures.capacity),
    )

pub returns-clause-answer : goal.returns-clause-answer
returns-clause-answer c same =
    (bytes_eq-Decides c.args.chunk.now (stream_from c.self.inside.feed.port c.self.inside.feed.clock.sent 2349)).0
    (sym c.is_next-same.ensures.answer ∙ same)
    ∙ ap (λ p. stream_from c.self.inside.feed.port p 2349) c.self.invariant.0.sent_is
    ∙ ap (λ (r : Reached). chunk_of r.port r.made) c.self.view_is
