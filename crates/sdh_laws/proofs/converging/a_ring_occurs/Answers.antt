use Rattle.sdh_laws.proofs.converging.Rings.{a_ring_occurs}
use Rattle.sdh_laws.proofs.converging.a_ring_occurs.Goals as goal

pub returns : goal.returns
returns c = a_ring_occurs c.rings_settle.ensures
