use Rattle.sdh_laws.proofs.restoring.SoonAtOnce.{held_followed_rings_are_restored_soon}
use Rattle.sdh_laws.proofs.restoring.held_followed_rings_are_restored_soon.Goals as goal

pub returns : goal.returns
returns c = held_followed_rings_are_restored_soon c.rings_settle.ensures
