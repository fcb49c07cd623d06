use Rattle.sdh_laws.proofs.restoring.Anew.{changes_keep_followed}
use Rattle.sdh_laws.proofs.restoring.changes_keep_followed.Goals as goal

pub returns : goal.returns
returns c = changes_keep_followed
