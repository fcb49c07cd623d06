use Rattle.sdh_laws.proofs.strangers.Scripts.{a_hold_spoils_its_own_step_alone}
use Rattle.sdh_laws.proofs.strangers.a_hold_spoils_its_own_step_alone.Goals as goal

pub returns : goal.returns
returns c = a_hold_spoils_its_own_step_alone c.still_rings_are_settled.ensures
