use Rattle.std.proofs.Common.{◌∙◌}
use Rattle.sdh_outage.proofs.Windows.{near_stream}
use Rattle.sdh_outage.proofs.window.Window.sought.Goals as goal

pub spell-requires : goal.spell-requires
spell-requires c = c.fill.ensures ∙ near_stream c.self.inside.port c.self.inside.round c.saturating_sub.result c.saturating_sub.ensures
