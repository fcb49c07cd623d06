use Rattle.std.proofs.Common.{◌<◌, arith}
use Rattle.sdh_interchange.proofs.Turning.{put-rows, put-lanes, put-done}
use Rattle.sdh_interchange.proofs.columns.rows_of.Goals as goal

pub loop-a-preserved : goal.loop-a-preserved
loop-a-preserved g c =
    let a = c.loop-a.a in
    let own = c.args.own.now in
    let v = c.sixteen.result in
    let small : a < g.row.A = omega arith in
    record {
      rows = put-rows g.row.A c.loop-a.rows own v a c.args.from c.loop-a.invariant.rows small c.sixteen.ensures.long c.sixteen.ensures.each;
      lanes =
          put-lanes g.row.A c.loop-a.rows own v a c.args.from c.loop-a.invariant.rows small c.sixteen.ensures.long c.sixteen.ensures.each c.loop-a.invariant.lanes;
      done =
          put-done g.row.A c.loop-a.rows own v a c.args.from c.loop-a.invariant.rows small c.sixteen.ensures.long c.sixteen.ensures.each c.loop-a.invariant.done;
    }
