use Rattle.std.proofs.Common.{sym, subst, arith}
use Rattle.sdh_outage.specs.Kept.{IsReach}
use Rattle.sdh_outage.proofs.Windows.{reach_none}
use Rattle.sdh_outage.proofs.reach.Reach.try_new.Goals as goal

pub invariant_of-result : goal.invariant_of-result
invariant_of-result c = (
  subst (λ l. IsReach c.new-feed.result 0 0 l) (sym c.in_ok-bytes.ensures.items)
      (reach_none c.args.port.now c.new-feed.result c.new-feed.ensures),
  omega (arith, c.in_ok-bytes.ensures.len),
  omega arith,
  omega (arith, c.requires),
  omega (arith, c.in_ok-bytes.ensures.capacity),
)
