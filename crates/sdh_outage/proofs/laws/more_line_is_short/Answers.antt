use Rattle.sdh_outage.proofs.Short.{short-more_line}
use Rattle.sdh_outage.proofs.laws.more_line_is_short.Goals as goal

pub returns : goal.returns
returns c = short-more_line c.args.count c.rounds_are_few.ensures.from
