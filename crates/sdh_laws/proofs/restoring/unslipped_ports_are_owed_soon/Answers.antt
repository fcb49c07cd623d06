use Rattle.sdh_laws.proofs.restoring.Soon.{unslipped_ports_are_owed_soon}
use Rattle.sdh_laws.proofs.restoring.unslipped_ports_are_owed_soon.Goals as goal

pub returns : goal.returns
returns c = unslipped_ports_are_owed_soon c.rings_settle.ensures
