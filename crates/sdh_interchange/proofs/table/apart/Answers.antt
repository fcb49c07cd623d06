use Rattle.std.proofs.Common.{◌<◌, refl, arith}
use Rattle.sdh_interchange.proofs.Turning.{two-rows, two-lanes, two-done}
use Rattle.sdh_interchange.proofs.table.apart.Goals as goal

pub loop-i-preserved : goal.loop-i-preserved
loop-i-preserved c =
    let i = c.loop-i.i in
    let small : i < 8 = omega arith in
    record {
      last = refl;
      rows = two-rows c.args.v c.loop-i.out i small c.requires.lanes c.loop-i.invariant.rows;
      lanes = two-lanes c.args.v c.loop-i.out i small c.requires.lanes c.loop-i.invariant.rows c.loop-i.invariant.lanes;
      done = two-done c.args.v c.loop-i.out i small c.requires.lanes c.loop-i.invariant.rows c.loop-i.invariant.done;
    }
