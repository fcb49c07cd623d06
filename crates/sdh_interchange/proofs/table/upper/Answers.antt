use Rattle.std.proofs.Common.{◌<◌, arith}
use Rattle.sdh_interchange.proofs.Turning.{half-rows, half-lanes, half-done}
use Rattle.sdh_interchange.proofs.table.upper.Goals as goal

pub loop-i-preserved : goal.loop-i-preserved
loop-i-preserved c =
    let i = c.loop-i.i in
    let small : i < 8 = omega arith in
    record {
      rows = half-rows c.args.v c.loop-i.out 8 i (omega arith) small c.requires.lanes c.loop-i.invariant.rows;
      lanes = half-lanes c.args.v c.loop-i.out 8 i (omega arith) small c.requires.lanes c.loop-i.invariant.rows c.loop-i.invariant.lanes;
      done = half-done c.args.v c.loop-i.out 8 i (omega arith) small c.requires.lanes c.loop-i.invariant.rows c.loop-i.invariant.done;
    }
