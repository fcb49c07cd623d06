use Rattle.sdh_owed.proofs.Course.{courses_are_told}
use Rattle.sdh_owed.proofs.courses_are_told.Goals as goal

pub returns : goal.returns
returns c = courses_are_told c.still_rings_are_settled.ensures c.a_hold_spoils_its_own_step_alone.ensures (record {
  stretches = c.stretches_are_restored_soon.ensures;
  free = c.free_rings_are_restored_soon.ensures;
  held = c.held_followed_rings_are_restored_soon.ensures;
  ports = c.followed_ports_are_owed_soon.ensures;
  fresh = c.new_rings_are_followed.ensures;
  changes = c.changes_keep_followed.ensures;
  windows = c.windows_leave_followed.ensures;
})
