use Rattle.sdh_laws.proofs.strangers.Spared.{three_spare_a_customer}
use Rattle.sdh_laws.proofs.strangers.three_spare_a_customer.Goals as goal

pub returns : goal.returns
returns c = three_spare_a_customer c.still_rings_are_settled.ensures
