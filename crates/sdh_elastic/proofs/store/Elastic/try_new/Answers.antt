use Rattle.sdh_elastic.proofs.Course.{new_store}
use Rattle.sdh_elastic.proofs.store.Elastic.try_new.Goals as goal

pub returns-clause-history : goal.returns-clause-history
returns-clause-history c = rw c.in_ok-held.ensures (new_store c.args.value)
