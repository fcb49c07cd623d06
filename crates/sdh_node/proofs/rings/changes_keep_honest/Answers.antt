use Rattle.sdh_node.proofs.RingLaws.Honest.{changes_keep_honest}
use Rattle.sdh_node.proofs.rings.changes_keep_honest.Goals as goal

pub returns : goal.returns
returns c = changes_keep_honest
