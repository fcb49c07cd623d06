use Rattle.std.proofs.Common.{sym, subst, arith}
use Rattle.sdh_outage.specs.Kept.{IsReach}
use Rattle.sdh_outage.proofs.Windows.{reach_none}
use Rattle.sdh_outage.proofs.reach.Reach.restart.Goals as goal

pub invariant_of-self : goal.invariant_of-self
invariant_of-self c =
    let feed = c.new-self-inside.result in (
      subst (IsReach feed 0 0) (sym c.clear.ensures.items) (reach_none c.args.port.now feed c.new-self-inside.ensures),
      omega (arith, c.clear.ensures.len),
      omega arith,
      c.self.invariant.3,
      omega (arith, c.self.invariant.4, c.clear.ensures.capacity),
    )
