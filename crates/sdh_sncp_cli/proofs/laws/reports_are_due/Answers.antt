use Rattle.sdh_sncp_cli.proofs.Due.{reports_due}
use Rattle.sdh_sncp_cli.proofs.laws.reports_are_due.Goals as goal

pub returns : goal.returns
returns c = reports_due
