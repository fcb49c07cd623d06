use Rattle.sdh_node.specs.Crossing.{all_delivered}
use Rattle.sdh_node.proofs.Later.{twice_below}
use Rattle.sdh_node.proofs.cross.front_at.Goals as goal

pub front-requires-clause-ports : goal.front-requires-clause-ports
front-requires-clause-ports c = λ k d lt. (let is = c.requires.ports k d lt in (is.0, twice_below c.args.cross.now.west.section.rate _ is.1))

pub returns : goal.returns
unfolding all_delivered
returns c = c.front.ensures
