use Rattle.std.proofs.Common.{◌≡◌, ◌<◌, length, ap, arith}
use Rattle.sdh_circuits.specs.Provisioning.{Provisioning}
use Rattle.sdh_node.specs.Rings.Held.{outlet_at}
use Rattle.sdh_cli.proofs.Told.{chunks_more}
use Rattle.sdh_cli.proofs.reports.chunks_in.Goals as goal

pub loop-i-preserved : goal.loop-i-preserved
loop-i-preserved c =
    let r = c.args.ring.now in
    let cs = r.circuits.circuits in
    let i = c.loop-i.i in
    let size : length c.circuits-circuits.result.now.circuits ≡ length cs =
    ap (λ (p : Provisioning). length p.circuits) c.circuits-circuits.ensures in
    let lt : i < length cs = omega (arith, c.loop-i-test.true, c.len-i-end.ensures.len, size) in
    record {
      counted = omega (arith, c.loop-i.invariant.counted, c.chunks_at-count.ensures.chunks, chunks_more (outlet_at r) cs i lt);
      few = omega (arith, c.loop-i.invariant.few, c.chunks_at-count.ensures.few);
    }
