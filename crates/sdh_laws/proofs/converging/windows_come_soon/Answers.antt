use Rattle.sdh_laws.proofs.converging.Converging.{windows_come_soon}
use Rattle.sdh_laws.proofs.converging.windows_come_soon.Goals as goal

pub returns : goal.returns
returns c = windows_come_soon c.rings_settle.ensures
