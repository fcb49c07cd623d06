use Rattle.std.proofs.Common.{◌∙◌}
use Rattle.sdh_overhead.proofs.Opening.{given-is}
use Rattle.sdh_overhead.proofs.landed.Landed.swap_frame.Goals as goal

pub returns-clause-frame : goal.returns-clause-frame
returns-clause-frame c =
    λ bytes e. c.swap.ensures.y_after ∙ given-is c.self.inside.frame c.self.inside.here c.args.self.now bytes c.self.view_is e
