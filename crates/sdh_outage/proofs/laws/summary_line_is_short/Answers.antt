use Rattle.sdh_outage.proofs.Short.{short-summary_line}
use Rattle.sdh_outage.proofs.laws.summary_line_is_short.Goals as goal

pub returns : goal.returns
returns c = short-summary_line c.args.summary.now (record {
  longest = c.rounds_are_few.ensures.from;
  over = c.rounds_are_few.ensures.to;
  none = c.rounds_are_few-2.ensures.from;
  still = c.rounds_are_few-2.ensures.to;
  foreign = c.rounds_are_few-3.ensures.from;
})
