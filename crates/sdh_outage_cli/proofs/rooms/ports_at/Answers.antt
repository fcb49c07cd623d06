use Rattle.std.proofs.Common.{arith}
use Rattle.sdh_outage_cli.proofs.Counting.{ports_none, ports_more, ports_all}
use Rattle.sdh_outage_cli.proofs.rooms.ports_at.Goals as goal

pub loop-i-init : goal.loop-i-init
loop-i-init c = record { sum = ports_none c.args.at c.args.circuits.now.circuits; few = omega arith }

pub loop-i-preserved : goal.loop-i-preserved
loop-i-preserved c =
    let cs = c.args.circuits.now.circuits in
    let i = c.loop-i.i in
    let inv = c.loop-i.invariant in
    let more = ports_more c.args.at i c.loop-i.count cs c.get.result.now c.get.ensures inv.sum in
    let here = c.ports_of-count.ensures.count i in
    record { sum = omega (arith, more, here); few = omega (arith, inv.few, c.ports_of-count.ensures.few) }

pub returns-clause-count : goal.returns-clause-count
returns-clause-count c =
    ports_all c.args.at c.loop-i.i c.loop-i.count c.args.circuits.now.circuits
    (omega (arith, c.loop-i-test.false, c.len-i-end.ensures.len)) c.loop-i.invariant.sum
