use Rattle.sdh_laws.proofs.restoring.Soon.{ports_are_owed_soon}
use Rattle.sdh_laws.proofs.restoring.ports_are_owed_soon.Goals as goal

pub returns : goal.returns
returns c = ports_are_owed_soon c.rings_settle.ensures
