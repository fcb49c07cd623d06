use Rattle.std.proofs.Common.{[], ap, ◌∙◌}
use Rattle.sdh_outage.specs.Kept.{heard}
use Rattle.sdh_outage_cli.proofs.ports.begin.Goals as goal

pub returns : goal.returns
returns c = λ far whose. c.begin.ensures far whose ∙ ap (λ d. heard far whose c.args.listener.now.round d []) c.port.ensures
