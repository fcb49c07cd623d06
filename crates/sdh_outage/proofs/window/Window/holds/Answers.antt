use Rattle.std.proofs.Common.{ap, ◌∙◌}
use Rattle.sdh_outage.specs.Near.{near, holds}
use Rattle.sdh_outage.specs.Kept.{Nearby}
use Rattle.sdh_outage.proofs.window.Window.holds.Goals as goal

pub returns : goal.returns
returns c =
    let chunk = c.args.chunk.now in
    c.holds.ensures ∙ ap (λ l. holds chunk l) c.near.ensures ∙ ap (λ (n : Nearby). holds chunk (near n.port n.round)) c.self.view_is
