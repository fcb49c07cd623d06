use Rattle.std.proofs.Common.{◌+◌, ◌*◌, ◌<◌, ◌≤◌, length, arith}
use Rattle.sdh_interchange.proofs.Turning.{load-rows, load-lanes, load-done}
use Rattle.sdh_interchange.proofs.payloads.load.Goals as goal

pub loop-k-preserved : goal.loop-k-preserved
loop-k-preserved g c =
    let k = c.loop-k.k in
    let n = g.row.V in
    let bytes = c.args.bytes.now in
    let small : k < n = omega arith in
    let room : c.args.at + 16 * k + 16 ≤ length bytes = omega arith in
    record {
      rows = load-rows n c.loop-k.rows bytes k c.args.at c.loop-k.invariant.rows small room;
      lanes = load-lanes n c.loop-k.rows bytes k c.args.at c.loop-k.invariant.rows small room c.loop-k.invariant.lanes;
      done = load-done n c.loop-k.rows bytes k c.args.at c.loop-k.invariant.rows small room c.loop-k.invariant.done;
    }
