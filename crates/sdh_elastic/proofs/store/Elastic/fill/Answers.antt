use Rattle.std.proofs.Common.{◌∙◌}
use Rattle.sdh_elastic.specs.contracts.store.Elastic.{the_view}
use Rattle.sdh_elastic.proofs.Course.{fill_of_history}
use Rattle.sdh_elastic.proofs.store.Elastic.fill.Goals as goal

pub returns-clause-history : goal.returns-clause-history
returns-clause-history c =
    λ first past came. c.len.ensures ∙ fill_of_history (the_view c.self.inside) first past (rw (← c.self.view_is) at came)
