use Rattle.sdh_laws.proofs.restoring.SoonAtOnce.{unsettled_followed_rings_are_restored}
use Rattle.sdh_laws.proofs.restoring.unsettled_followed_rings_are_restored.Goals as goal

pub returns : goal.returns
returns c = unsettled_followed_rings_are_restored c.rings_settle.ensures
