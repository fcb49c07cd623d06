use Rattle.std.proofs.Common.{◌<◌, arith}
use Rattle.sdh_interchange.proofs.Turning.{more-rows, more-lanes, more-done}
use Rattle.sdh_interchange.proofs.table.turn8.Goals as goal

pub loop-i-preserved : goal.loop-i-preserved
loop-i-preserved c =
    let i = c.loop-i.i in
    let small : i < 4 = omega arith in
    record {
      rows = more-rows 4 c.args.v c.loop-i.out i small c.requires.lanes c.loop-i.invariant.rows;
      lanes = more-lanes 4 c.args.v c.loop-i.out i small c.requires.lanes c.loop-i.invariant.rows c.loop-i.invariant.lanes;
      done = more-done 4 c.args.v c.loop-i.out i small c.requires.lanes c.loop-i.invariant.rows c.loop-i.invariant.done;
    }
