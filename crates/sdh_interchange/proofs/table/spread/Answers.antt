use Rattle.sdh_interchange.proofs.Spreading.{spread-each}
use Rattle.sdh_interchange.proofs.table.spread.Goals as goal

pub returns-clause-each : goal.returns-clause-each
returns-clause-each c =
    spread-each c.args.v c.requires.lanes c.low_twice.result c.high_twice.result c.low_twice-2.result c.high_twice-2.result c.low_twice.ensures.each c.high_twice.ensures.each c.low_twice-2.ensures.each c.high_twice-2.ensures.each
