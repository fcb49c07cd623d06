use Rattle.sdh_laws.proofs.strangers.Runs.{strangers_are_gone_soon}
use Rattle.sdh_laws.proofs.strangers.strangers_are_gone_soon.Goals as goal

pub returns : goal.returns
returns c = strangers_are_gone_soon
