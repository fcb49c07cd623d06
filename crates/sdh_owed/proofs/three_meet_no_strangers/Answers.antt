use Rattle.sdh_owed.proofs.Occurring as proved
use Rattle.sdh_owed.proofs.three_meet_no_strangers.Goals as goal

pub returns : goal.returns
returns c = proved.three_meet_no_strangers c.a_ring_occurs.ensures c.still_rings_are_settled.ensures c.a_hold_spoils_its_own_step_alone.ensures
    c.windows_come_soon.ensures
