use Rattle.sdh_interchange.proofs.Turning.{turned-four}
use Rattle.sdh_interchange.proofs.table.turn4.Goals as goal

pub returns-clause-each : goal.returns-clause-each
returns-clause-each c = turned-four c.args.v c.requires.lanes
