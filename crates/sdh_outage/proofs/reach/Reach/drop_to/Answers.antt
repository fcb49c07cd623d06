use Rattle.std.proofs.Common.{◌≡◌, sym, ap, subst, arith}
use Rattle.sdh_outage.specs.Kept.{Reached, IsReach}
use Rattle.sdh_outage.proofs.Windows.{reach_dropped}
use Rattle.sdh_outage.proofs.reach.Reach.drop_to.Goals as goal

pub invariant_of-self : goal.invariant_of-self
invariant_of-self c =
    let inside = c.self.inside in
    let from = c.args.from in
    let is_first : inside.first ≡ c.args.self.now.first = ap (λ (r : Reached). r.first) c.self.view_is in
    let is_made : inside.made ≡ c.args.self.now.made = ap (λ (r : Reached). r.made) c.self.view_is in
    let r = c.self.invariant.0 in (
      subst (λ l. IsReach inside.feed from inside.made l) (sym c.drop_front.ensures.bytes)
          (reach_dropped inside.feed inside.first from inside.made inside.bytes.items
          (omega (arith, is_first, c.requires.after)) (omega (arith, is_made, c.requires.before)) r),
      omega (arith, c.drop_front.ensures.count, c.self.invariant.1, is_first, is_made, c.requires.after, c.requires.before),
      omega (arith, c.self.invariant.2, is_first, c.requires.after),
      c.self.invariant.3,
      omega (arith, c.self.invariant.4, c.drop_front.ensures.room),
    )
