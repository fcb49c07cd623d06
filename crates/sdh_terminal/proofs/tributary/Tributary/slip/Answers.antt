use Rattle.std.proofs.Common.{sym, subst}
use Rattle.sdh_payload.specs.Feed.{Fed}
use Rattle.sdh_terminal.specs.Tributaries.{IsFed}
use Rattle.sdh_terminal.proofs.Ports.{slipped_kept}
use Rattle.sdh_terminal.proofs.tributary.Tributary.slip.Goals as goal

pub invariant_of-self : goal.invariant_of-self
invariant_of-self c =
    let i = c.self.inside in
    subst (λ (feed : Fed). IsFed feed i.payload i.h3) (sym c.wait.ensures)
    (slipped_kept i.feed c.args.turn c.args.count i.payload i.h3 c.self.invariant)
