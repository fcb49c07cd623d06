use Rattle.sdh_owed.proofs.Occurring as proved
use Rattle.sdh_owed.proofs.three_are_owed_soon.Goals as goal

pub returns : goal.returns
returns c = proved.three_are_owed_soon c.a_ring_occurs.ensures (record {
  stretches = c.stretches_are_restored_soon.ensures;
  free = c.free_rings_are_restored_soon.ensures;
  held = c.held_followed_rings_are_restored_soon.ensures;
  ports = c.followed_ports_are_owed_soon.ensures;
  fresh = c.new_rings_are_followed.ensures;
  changes = c.changes_keep_followed.ensures;
  windows = c.windows_leave_followed.ensures;
})
