use Rattle.sdh_laws.proofs.restoring.SoonAtOnce.{followed_ports_are_owed_soon}
use Rattle.sdh_laws.proofs.restoring.followed_ports_are_owed_soon.Goals as goal

pub returns : goal.returns
returns c = followed_ports_are_owed_soon c.rings_settle.ensures
