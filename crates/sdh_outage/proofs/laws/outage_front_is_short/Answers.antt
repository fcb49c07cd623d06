use Rattle.sdh_outage.proofs.Short.{short-front}
use Rattle.sdh_outage.proofs.laws.outage_front_is_short.Goals as goal

pub returns : goal.returns
returns c = λ name end h.
    short-front name end c.args.outage.now h (record {
      ais = c.counts_are_few.ensures.ais;
      ones = c.counts_are_few.ensures.ones;
      jump = c.counts_are_few.ensures.jump;
      torn = c.counts_are_few-2.ensures.ais;
      strange = c.counts_are_few-2.ensures.ones;
      foreign = c.counts_are_few-2.ensures.jump;
      count = c.runs_are_few.ensures.count;
      longest = c.runs_are_few.ensures.longest;
      stretch = c.stretch_is_small.ensures;
    })
