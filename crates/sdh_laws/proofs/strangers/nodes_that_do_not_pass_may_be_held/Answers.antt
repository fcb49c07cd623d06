use Rattle.sdh_laws.proofs.strangers.Runs.{nodes_that_do_not_pass_may_be_held}
use Rattle.sdh_laws.proofs.strangers.nodes_that_do_not_pass_may_be_held.Goals as goal

pub returns : goal.returns
returns c = nodes_that_do_not_pass_may_be_held c.still_rings_are_settled.ensures
