use Rattle.sdh_node.proofs.RingLaws.Honest.{changes_keep_prepared}
use Rattle.sdh_node.proofs.rings.changes_keep_prepared.Goals as goal

pub returns : goal.returns
returns c = changes_keep_prepared
