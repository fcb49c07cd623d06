use Rattle.sdh_node_cli.proofs.Ahead.{filled, cut_short}
use Rattle.sdh_node_cli.proofs.pair.fill_after.Goals as goal

pub returns-in-Ok-clause-took : goal.returns-in-Ok-clause-took
returns-in-Ok-clause-took g c =
    filled c.args.first c.in-Some.byte _ _ c.args.buf.now c.fill.new.buf _ c.in-Ok.count c.in-Some.is (rw c.in-Some.is at c.requires.some) c.in-Ok.ensures.within
    c.in-Ok.ensures.took

pub returns-in-Err-clause-failed : goal.returns-in-Err-clause-failed
returns-in-Err-clause-failed g c =
    cut_short c.args.first c.in-Some.byte _ _ c.args.buf.now c.fill.new.buf _ c.in-Some.is (rw c.in-Some.is at c.requires.some) c.in-Err.ensures.failed
