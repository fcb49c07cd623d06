use Rattle.sdh_outage.proofs.Short.{short-change_line}
use Rattle.sdh_outage.proofs.laws.change_line_is_short.Goals as goal

pub returns : goal.returns
returns c = short-change_line c.args.change.now c.rounds_are_few.ensures.from
